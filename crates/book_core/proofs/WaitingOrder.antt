-- Panes wait in the order in which they fired: from the opening on.
use Rattle.std.proofs.Common.{◌≡◌, ℕ, zero, suc, ◌+◌, ◌<◌, ◌≤◌, Bool, true, false, not, cond, List, [], ◌∷◌, ◌++◌, length, map, take, drop, refl, sym, ap, subst, arith}
use Rattle.std.specs.Prelude.{Option, Some, None, ◌==◌, slice_set, unwrap_or}
use Rattle.std.specs.List.{All, filter, flat_map, enumerate_from}
use Rattle.std.proofs.lemmas.List.Elements.{All-nil, All-cons, All-head, All-tail, All-append, All-filter, All-set, All-take, All-weaker}
use Rattle.std.proofs.lemmas.Option.{slice_get_within}
use Rattle.beam_values.specs.declared.cell.Pane.{Pane}
use Rattle.beam_values.specs.declared.fault.Cause.{Cause}
use Rattle.beam_values.specs.declared.fault.Cause.TheVariants.{Call, Read}
use Rattle.beam_values.specs.declared.fault.FaultNote.{FaultNote}
use Rattle.beam_values.specs.declared.file_text.FileText.{FileText}
use Rattle.beam_values.specs.declared.marks.StageMarks.{StageMarks}
use Rattle.beam_values.specs.declared.plan.Node.{Node}
use Rattle.group_cells.proofs.Counting.{All-unmap}
use Rattle.book_core.specs.Book.{SeenBook, HeldPane, batch_of, held_at, held_in, last_marks, live_batches, queue_at, queued}
use Rattle.book_core.specs.Changes.{as_waiting, fired_at, with_fired, with_slot, given_back, tried_batch, counted, stopped_where, ends_run, note_of}
use Rattle.book_core.specs.Facts.{AreHeldOnce, IsHeldPane}
use Rattle.book_core.specs.Jobs.{Next, first_pane, with_key}
use Rattle.book_core.specs.Sane.{AreWaitingInOrder, AscendByPane}
use Rattle.book_core.specs.Steps.{IsWorking}
use Rattle.book_core.specs.declared.live.Batch.{Batch}
use Rattle.book_core.specs.declared.live.Live.{Live}
use Rattle.book_core.specs.declared.live.Live.TheVariants as live
use Rattle.book_core.specs.declared.live.WaitingPane.{WaitingPane}
use Rattle.book_core.proofs.Cases.{Keeps}
use Rattle.book_core.proofs.HeldMoves.{All-middle}
use Rattle.book_core.proofs.OpenedPieces.{enrolled_of}
use Rattle.book_core.proofs.Queues.{queued_from}
use Rattle.book_core.proofs.Slots.{All-slice_get}
use Rattle.book_core.proofs.Slotted.{All-append_left, All-append_right, All-flat_at, All-flat_set}
use Rattle.book_core.proofs.Taking.{IsOldest, take_cases}

-- ---- lists of panes

abbrev IsAbove : ℕ → WaitingPane → Type 0
IsAbove n waiting = n < waiting.pane

ascend_take : (n : ℕ) (panes : List WaitingPane) → AscendByPane panes → AscendByPane (take n panes)
ascend_take zero [] up = tt
ascend_take zero (w ∷ ws) up = tt
ascend_take (suc n) [] up = tt
ascend_take (suc n) (w ∷ ws) up = (All-take (IsAbove w.pane) n ws up.0, ascend_take n ws up.1)

ascend_drop : (n : ℕ) (panes : List WaitingPane) → AscendByPane panes → AscendByPane (drop n panes)
ascend_drop zero [] up = tt
ascend_drop zero (w ∷ ws) up = up
ascend_drop (suc n) [] up = tt
ascend_drop (suc n) (w ∷ ws) up = ascend_drop n ws up.1

-- all panes of the first are below this number, and none of the second is
ascend_append : (n : ℕ) (xs ys : List WaitingPane) → AscendByPane xs → AscendByPane ys → All (λ w. w.pane < n) xs → All (λ w. n ≤ w.pane) ys → AscendByPane (xs ++ ys)
ascend_append n [] ys first second low high = second
ascend_append n (x ∷ xs) ys first second low high =
    let here = All-head (λ (w : WaitingPane). w.pane < n) x xs low in (
      All-append (IsAbove x.pane) xs ys first.0 (All-weaker (λ (w : WaitingPane). n ≤ w.pane) (IsAbove x.pane) (λ w h. omega (arith, here, h)) ys high),
      ascend_append n xs ys first.1 second (All-tail (λ (w : WaitingPane). w.pane < n) x xs low) high,
    )

-- ---- panes that fire

module _ (before : List StageMarks) (node : ℕ) where
  abbrev waiting_of : ℕ → List Pane → List WaitingPane
  waiting_of n fired = map (as_waiting before) (fired_at node (enumerate_from n fired))

  fired_high : (n : ℕ) (fired : List Pane) → All (λ w. n ≤ w.pane) (waiting_of n fired)
  fired_high n [] = All-nil (λ (w : WaitingPane). n ≤ w.pane)
  fired_high n (p ∷ ps) = by (p.node == node) (All-weaker (λ (w : WaitingPane). n + 1 ≤ w.pane) (λ w. n ≤ w.pane) (λ w h. omega (arith, h)) (waiting_of (n + 1) ps) (fired_high (n + 1) ps))
    where
      by : (t : Bool) → All (λ w. n ≤ w.pane) (waiting_of (n + 1) ps) → All (λ w. n ≤ w.pane) (map (as_waiting before) (cond t ((n, p) ∷ fired_at node (enumerate_from (n + 1) ps)) (fired_at node (enumerate_from (n + 1) ps))))
      by true later = All-cons (λ (w : WaitingPane). n ≤ w.pane) (as_waiting before (n, p)) (waiting_of (n + 1) ps) (omega arith) later
      by false later = later

  fired_up : (n : ℕ) (fired : List Pane) → AscendByPane (waiting_of n fired)
  fired_up n [] = tt
  fired_up n (p ∷ ps) =
      by (p.node == node) (All-weaker (λ (w : WaitingPane). n + 1 ≤ w.pane) (IsAbove n) (λ w h. omega (arith, h)) (waiting_of (n + 1) ps) (fired_high (n + 1) ps)) (fired_up (n + 1) ps)
    where
      by : (t : Bool) → All (IsAbove n) (waiting_of (n + 1) ps) → AscendByPane (waiting_of (n + 1) ps)
          → AscendByPane (map (as_waiting before) (cond t ((n, p) ∷ fired_at node (enumerate_from (n + 1) ps)) (fired_at node (enumerate_from (n + 1) ps))))
      by true high up = (high, up)
      by false high up = up

-- ---- queues

queues_low : (most n : ℕ) (queues : List (List WaitingPane)) → All (λ h. h.waiting.pane < most) (queued_from n queues) → All (All (λ w. w.pane < most)) queues
queues_low most n [] all = All-nil (All (λ (w : WaitingPane). w.pane < most))
queues_low most n (q ∷ qs) all =
    All-cons (All (λ (w : WaitingPane). w.pane < most)) q qs
    (All-unmap (λ (h : HeldPane). h.waiting.pane < most) (λ (w : WaitingPane). record { node = n; waiting = w }) q
    (All-append_left (λ (h : HeldPane). h.waiting.pane < most) (held_at n q) (queued_from (n + 1) qs) all))
    (queues_low most (n + 1) qs (All-append_right (λ (h : HeldPane). h.waiting.pane < most) (held_at n q) (queued_from (n + 1) qs) all))

queues_up : (before : List StageMarks) (most n : ℕ) (fired : List Pane) (queues : List (List WaitingPane)) → All AscendByPane queues → All (All (λ w. w.pane < most)) queues
    → All AscendByPane (map (with_fired before (enumerate_from most fired)) (enumerate_from n queues))
queues_up before most n fired [] up low = All-nil AscendByPane
queues_up before most n fired (q ∷ qs) up low =
    All-cons AscendByPane (q ++ map (as_waiting before) (fired_at n (enumerate_from most fired))) (map (with_fired before (enumerate_from most fired)) (enumerate_from (n + 1) qs))
    (ascend_append most q (map (as_waiting before) (fired_at n (enumerate_from most fired))) (All-head AscendByPane q qs up) (fired_up before n most fired)
    (All-head (All (λ (w : WaitingPane). w.pane < most)) q qs low) (fired_high before n most fired))
    (queues_up before most (n + 1) fired qs (All-tail AscendByPane q qs up) (All-tail (All (λ (w : WaitingPane). w.pane < most)) q qs low))

pub waiting_low : (b : SeenBook) → AreHeldOnce b → All (All (λ w. w.pane < length b.panes)) b.queues
waiting_low b once =
    queues_low (length b.panes) 0 b.queues
    (All-append_left (λ (h : HeldPane). h.waiting.pane < length b.panes) (queued b) (flat_map held_in b.returned ++ flat_map held_in (live_batches b))
    (All-weaker (IsHeldPane b) (λ (h : HeldPane). h.waiting.pane < length b.panes) (λ h is. slice_get_within b.panes h.waiting.pane is.0 is.1)
    (queued b ++ (flat_map held_in b.returned ++ flat_map held_in (live_batches b))) once.panes))

-- ---- the steps

abbrev IsInOrder : Batch → Type 0
IsInOrder batch = AscendByPane batch.panes

module _ (b : SeenBook) (h : AreWaitingInOrder b) where
  returned_up : All IsInOrder b.returned
  returned_up = All-append_left IsInOrder b.returned (live_batches b) h.batches

  live_up : All IsInOrder (live_batches b)
  live_up = All-append_right IsInOrder b.returned (live_batches b) h.batches

  set_up : (returned : List Batch) (slot : ℕ) (new : Option Live) → All IsInOrder returned → All IsInOrder (batch_of new) → All IsInOrder (returned ++ live_batches (with_slot b slot new))
  set_up returned slot new all one = All-append IsInOrder returned (live_batches (with_slot b slot new)) all (All-flat_set batch_of b.slots slot IsInOrder new one live_up)

  one_up : (batch : Batch) → IsInOrder batch → All IsInOrder (batch ∷ [])
  one_up batch up = All-cons IsInOrder batch [] up (All-nil IsInOrder)

  oldest_panes : (batch : Batch) → IsOldest b batch → IsInOrder batch
  oldest_panes batch oldest =
      subst AscendByPane (sym oldest.panes)
      (ascend_take b.options.bundle (oldest.first ∷ oldest.later) (All-slice_get AscendByPane b.queues batch.node (oldest.first ∷ oldest.later) oldest.queue h.queues))

  oldest_queues : (batch : Batch) → IsOldest b batch → All AscendByPane (slice_set b.queues batch.node (drop b.options.bundle (queue_at b batch.node)))
  oldest_queues batch oldest =
      let read : queue_at b batch.node ≡ oldest.first ∷ oldest.later = ap (λ (found : Option (List WaitingPane)). unwrap_or found []) oldest.queue in
      All-set AscendByPane b.queues batch.node (drop b.options.bundle (queue_at b batch.node))
      (ascend_drop b.options.bundle (queue_at b batch.node)
      (subst AscendByPane (sym read) (All-slice_get AscendByPane b.queues batch.node (oldest.first ∷ oldest.later) oldest.queue h.queues))) h.queues

back_order : (b : SeenBook) (slot : ℕ) (job : Live) (at : ℕ) (cause : Cause) → AreWaitingInOrder b → IsWorking b slot job → AreWaitingInOrder (given_back (with_slot b slot None) job at cause)
back_order b slot (live.Span piece attempted) at cause h works = record {
  queues = h.queues;
  batches = set_up b h b.returned slot None (returned_up b h) (All-nil IsInOrder);
}
back_order b slot (live.Key turn) at cause h works = record {
  queues = h.queues;
  batches = set_up b h b.returned slot None (returned_up b h) (All-nil IsInOrder);
}
back_order b slot (live.Batch batch) at cause h works =
    let one = All-head IsInOrder batch [] (All-flat_at batch_of b.slots slot IsInOrder (Some (live.Batch batch)) works (live_up b h)) in
    record {
      queues = h.queues;
      batches = set_up b h (b.returned ++ tried_batch batch ∷ []) slot None (All-append IsInOrder b.returned (tried_batch batch ∷ []) (returned_up b h) (one_up b h (tried_batch batch) one)) (All-nil IsInOrder);
    }

counted_order : (x : SeenBook) (cause : Cause) → AreWaitingInOrder x → AreWaitingInOrder (counted x cause)
counted_order x Call h = record { queues = h.queues; batches = h.batches }
counted_order x Read h = record { queues = h.queues; batches = h.batches }

stop_order : (spent : Bool) (x : SeenBook) (note : FaultNote) → AreWaitingInOrder x → AreWaitingInOrder (stopped_where spent x note)
stop_order true x note h = record { queues = h.queues; batches = h.batches }
stop_order false x note h = h

empty_up : (nodes : List Node) → All AscendByPane (map (λ node. []) nodes)
empty_up [] = All-nil AscendByPane
empty_up (node ∷ nodes) = All-cons AscendByPane [] (map (λ n. []) nodes) tt (empty_up nodes)

pub keeps_order : (told : Option (List FileText)) → Keeps told AreHeldOnce AreWaitingInOrder
keeps_order told = record {
  opens = λ b first opening. subst AreWaitingInOrder (sym opening.is) (record { queues = empty_up b.plan.nodes; batches = All-nil IsInOrder });
  enrolls = λ b once h within. record {
    queues = h.queues;
    batches = subst (λ (l : List Batch). All IsInOrder (b.returned ++ l)) (sym (enrolled_of batch_of b.slots refl)) h.batches;
  };
  takes = λ b slot next once h running free is within.
      take_cases b (λ (n : Next). AreWaitingInOrder (with_slot n.rest slot (Some n.job)))
      (λ batch among. record {
        queues = h.queues;
        batches = set_up b h (filter (λ other. not (first_pane other == first_pane batch)) b.returned) slot (Some (live.Batch batch))
            (All-filter (λ (other : Batch). not (first_pane other == first_pane batch)) IsInOrder b.returned (returned_up b h))
            (one_up b h batch (All-middle IsInOrder among.front batch among.back (subst (All IsInOrder) among.is (returned_up b h))).0);
      })
      (λ batch oldest. record {
        queues = oldest_queues b h batch oldest;
        batches = set_up b h b.returned slot (Some (live.Batch batch)) (returned_up b h) (one_up b h batch (oldest_panes b h batch oldest));
      })
      (λ place cell found. record { queues = h.queues; batches = set_up b h b.returned slot (Some (with_key b place.at cell).job) (returned_up b h) (All-nil IsInOrder) })
      (λ piece later e. record { queues = h.queues; batches = set_up b h b.returned slot (Some (live.Span piece None)) (returned_up b h) (All-nil IsInOrder) })
      next is;
  claims = λ b slot p piece attempted once h works may. record {
    queues = h.queues;
    batches = set_up b h b.returned slot (Some (live.Span piece (Some p))) (returned_up b h) (All-nil IsInOrder);
  };
  splits = λ b slot at piece attempted once h works inside behind within. record {
    queues = h.queues;
    batches = set_up b h b.returned slot _ (returned_up b h) (All-nil IsInOrder);
  };
  commits = λ b slot job receipt cells fired marks once h made. record {
    queues = queues_up (last_marks b) (length b.panes) 0 fired b.queues h.queues (waiting_low b once);
    batches = set_up b h b.returned slot None (returned_up b h) (All-nil IsInOrder);
  };
  fails = λ b slot at job cause once h works fresh unbroken.
      stop_order (ends_run b job cause) (counted (given_back (with_slot b slot None) job at cause) cause) (note_of job at cause)
      (counted_order (given_back (with_slot b slot None) job at cause) cause (back_order b slot job at cause h works));
  breaks = λ b slot at piece attempted once h works fresh is. record {
    queues = h.queues;
    batches = set_up b h b.returned slot None (returned_up b h) (All-nil IsInOrder);
  };
  stops = λ b once h. record { queues = h.queues; batches = h.batches };
}
