-- Panes that aren't through are panes of the run, each at one place: every step keeps it.
use Rattle.std.proofs.Common.{◌≡◌, inl, inr, ℕ, zero, suc, ◌+◌, ◌<◌, ◌≤◌, Bool, true, false, not, cond, List, [], ◌∷◌, ◌++◌, length, map, refl, sym, ap, subst, ◌∙◌, length-append, append_assoc, arith}
use Rattle.std.specs.Prelude.{Option, Some, None, ◌==◌, slice_get, unwrap_or}
use Rattle.std.specs.List.{All, filter, flat_map, count_by, enumerate_from}
use Rattle.std.specs.Option.{option_map}
use Rattle.std.proofs.lemmas.Bool.{cases_lt, not-false}
use Rattle.std.proofs.lemmas.Bool.Decides.{nat_tests}
use Rattle.std.proofs.lemmas.List.{length-take}
use Rattle.std.proofs.lemmas.List.Concat.{flat_map-append}
use Rattle.std.proofs.lemmas.List.Elements.{All-nil, All-cons, All-head, All-append, All-filter, All-weaker}
use Rattle.std.proofs.lemmas.List.Sums.{sum_by-cons}
use Rattle.std.proofs.lemmas.Option.{slice_get_within}
use Rattle.beam_values.specs.Bags.{IsSameBag}
use Rattle.beam_values.specs.Nodes.{is_group, is_group_kind}
use Rattle.beam_values.proofs.Bags.{bag_sym, bag_count}
use Rattle.beam_values.specs.declared.cell.Cell.{Cell}
use Rattle.beam_values.specs.declared.cell.Pane.{Pane}
use Rattle.beam_values.specs.declared.fault.Cause.{Cause}
use Rattle.beam_values.specs.declared.fault.Cause.TheVariants.{Call, Read}
use Rattle.beam_values.specs.declared.fault.FaultNote.{FaultNote}
use Rattle.beam_values.specs.declared.file_text.FileText.{FileText}
use Rattle.beam_values.specs.declared.marks.StageMarks.{StageMarks}
use Rattle.beam_values.specs.declared.outcome.StopCause.{StopCause}
use Rattle.beam_values.specs.declared.outcome.StopCause.TheVariants as stop
use Rattle.beam_values.specs.declared.plan.Node.{Node}
use Rattle.beam_values.specs.declared.plan.Plan.{Plan}
use Rattle.bundle_commit.specs.declared.job.Receipt.{Receipt}
use Rattle.group_cells.proofs.Counting.{count_none, none_counted, count-append}
use Rattle.book_core.specs.Book.{SeenBook, HeldPane, batch_of, live_batches, held, held_in, last_marks}
use Rattle.book_core.specs.Changes.{with_slot, cut_to, committed, given_back, tried_batch, counted, stopped_where, ends_run, note_of, or_stopped}
use Rattle.book_core.specs.Facts.{is_held_at, IsHeldPane, AreHeldOnce, IsWellFormed}
use Rattle.book_core.specs.Jobs.{Next, next_job, with_key, first_pane}
use Rattle.book_core.specs.Runs.{IsOpening, opened}
use Rattle.book_core.specs.Steps.{IsWorking, IsFree}
use Rattle.book_core.specs.declared.live.Batch.{Batch}
use Rattle.book_core.specs.declared.live.Live.{Live}
use Rattle.book_core.specs.declared.live.Live.TheVariants as live
use Rattle.book_core.proofs.Cases.{Keeps, Commits, AreAlways, Both, kept_with, enrolled}
use Rattle.book_core.proofs.Formed.{formed_always}
use Rattle.book_core.proofs.HeldMoves.{IsNonempty, All-middle, take_moves, set_moves, enroll_moves, back_moves, commit_moves, fired_held}
use Rattle.book_core.proofs.Queues.{held_fired, queued_from}
use Rattle.book_core.proofs.Slotted.{All-append_left, All-append_right, All-flat_set, All-flat_at}
use Rattle.book_core.proofs.Taking.{IsOldest, take_cases}

-- ---- what holds of each of a bag, by a test

pub All-of_bag : {X : Type 0} (p : X → Bool) (xs ys : List X) → IsSameBag xs ys → All (λ x. p x ≡ true) xs → All (λ x. p x ≡ true) ys
All-of_bag p xs ys same h =
    All-weaker (λ x. not (p x) ≡ false) (λ x. p x ≡ true) (λ x e. not-false (p x) e) ys
    (none_counted (λ x. not (p x)) ys
    (sym (bag_count (λ x. not (p x)) xs ys same)
    ∙ count_none (λ x. not (p x)) xs (All-weaker (λ x. p x ≡ true) (λ x. not (p x) ≡ false) (λ x e. ap not e) xs h)))

well_of : ℕ → Option Pane → Bool
well_of node None = false
well_of node (Some pane) = pane.node == node

-- whether it is a pane of the run
pub is_well : List Pane → HeldPane → Bool
is_well panes held = well_of held.node (slice_get panes held.waiting.pane)

pub well_from : (panes : List Pane) (held : HeldPane) (pane : Pane) → slice_get panes held.waiting.pane ≡ Some pane → pane.node ≡ held.node → is_well panes held ≡ true
unfolding is_well well_of
well_from panes held pane at e =
    let same : (pane.node == held.node) ≡ true = grind (arith, nat_tests) in
    ap (well_of held.node) at ∙ same

pub well_is : (panes : List Pane) (held : HeldPane) → is_well panes held ≡ true
    → (pane : Pane) × (slice_get panes held.waiting.pane ≡ Some pane) × (pane.node ≡ held.node)
unfolding is_well well_of
well_is panes held h = by (slice_get panes held.waiting.pane) refl h
  where
    by : (found : Option Pane) → slice_get panes held.waiting.pane ≡ found → well_of held.node found ≡ true
        → (pane : Pane) × (slice_get panes held.waiting.pane ≡ Some pane) × (pane.node ≡ held.node)
    by None at e = absurd (cc)
    by (Some pane) at e = let same : pane.node ≡ held.node = grind (arith, nat_tests) in (pane, at, same)

abbrev AreWell : List Pane → List HeldPane → Type 0
AreWell panes held = All (λ h. is_well panes h ≡ true) held

all_well : (b : SeenBook) → All (IsHeldPane b) (held b) → AreWell b.panes (held b)
all_well b h = All-weaker (IsHeldPane b) (λ x. is_well b.panes x ≡ true) (λ x k. well_from b.panes x k.0 k.1 k.2) (held b) h

well_all : (b : SeenBook) → AreWell b.panes (held b) → All (IsHeldPane b) (held b)
well_all b h = All-weaker (λ x. is_well b.panes x ≡ true) (IsHeldPane b) (λ x k. well_is b.panes x k) (held b) h

-- ---- the same bag

AreNonempty : SeenBook → Type 0
AreNonempty b = All IsNonempty (b.returned ++ live_batches b)

held_onward : (b new : SeenBook) → IsSameBag (held new) (held b) → new.panes ≡ b.panes → All IsNonempty (new.returned ++ live_batches new) → AreHeldOnce b → AreHeldOnce new
held_onward b new same panes some h = record {
  panes = well_all new (subst (λ (l : List Pane). AreWell l (held new)) (sym panes)
      (All-of_bag (is_well b.panes) (held b) (held new) (bag_sym (held new) (held b) same) (all_well b h.panes)));
  once = λ place. omega (arith, h.once place, bag_count (is_held_at place) (held new) (held b) same);
  batches = some;
}

-- ---- batches have panes

module _ (b : SeenBook) (h : AreHeldOnce b) where
  returned_some : All IsNonempty b.returned
  returned_some = All-append_left IsNonempty b.returned (live_batches b) h.batches

  live_some : All IsNonempty (live_batches b)
  live_some = All-append_right IsNonempty b.returned (live_batches b) h.batches

  set_some : (returned : List Batch) (slot : ℕ) (new : Option Live) → All IsNonempty returned → All IsNonempty (batch_of new)
      → All IsNonempty (returned ++ live_batches (with_slot b slot new))
  set_some returned slot new some one =
      All-append IsNonempty returned (live_batches (with_slot b slot new)) some (All-flat_set batch_of b.slots slot IsNonempty new one live_some)

  one_some : (batch : Batch) → IsNonempty batch → All IsNonempty (batch ∷ [])
  one_some batch some = All-cons IsNonempty batch [] some (All-nil IsNonempty)

  take_some : IsWellFormed b → (slot : ℕ) (next : Next) → next_job b ≡ Some next
      → All IsNonempty (next.rest.returned ++ live_batches (with_slot next.rest slot (Some next.job)))
  take_some formed slot next is =
      take_cases b (λ (n : Next). All IsNonempty (n.rest.returned ++ live_batches (with_slot n.rest slot (Some n.job))))
      (λ batch among. set_some (filter (λ other. not (first_pane other == first_pane batch)) b.returned) slot (Some (live.Batch batch))
      (All-filter (λ (other : Batch). not (first_pane other == first_pane batch)) IsNonempty b.returned returned_some)
      (one_some batch (All-middle IsNonempty among.front batch among.back (subst (All IsNonempty) among.is returned_some)).0))
      (λ batch oldest. set_some b.returned slot (Some (live.Batch batch)) returned_some (one_some batch (oldest_some batch oldest)))
      (λ place cell found. set_some b.returned slot (Some (with_key b place.at cell).job) returned_some (All-nil IsNonempty))
      (λ piece later e. set_some b.returned slot (Some (live.Span piece None)) returned_some (All-nil IsNonempty))
      next is
    where
      oldest_some : (batch : Batch) → IsOldest b batch → IsNonempty batch
      oldest_some batch oldest =
          let bundle = formed.allowed.bundle.0 in
          omega (arith, ap length oldest.panes, length-take b.options.bundle (oldest.first ∷ oldest.later), bundle)

  take_keeps : IsWellFormed b → (slot : ℕ) (next : Next) → IsFree b slot → next_job b ≡ Some next → AreHeldOnce (with_slot next.rest slot (Some next.job))
  take_keeps formed slot next free is =
      held_onward b (with_slot next.rest slot (Some next.job)) (take_moves b slot free h next is)
      (take_cases b (λ (n : Next). n.rest.panes ≡ b.panes) (λ batch among. refl) (λ batch oldest. refl) (λ place cell found. refl) (λ piece later e. refl) next is)
      (take_some formed slot next is) h

  set_keeps : (slot : ℕ) (old new : Option Live) → slice_get b.slots slot ≡ Some old → batch_of old ≡ [] → batch_of new ≡ [] → AreHeldOnce (with_slot b slot new)
  set_keeps slot old new at none_old none_new =
      held_onward b (with_slot b slot new) (set_moves b slot old new at none_old none_new) refl
      (set_some b.returned slot new returned_some (subst (All IsNonempty) (sym none_new) (All-nil IsNonempty))) h

  back_keeps : (slot : ℕ) (job : Live) (at : ℕ) (cause : Cause) → IsWorking b slot job → AreHeldOnce (given_back (with_slot b slot None) job at cause)
  back_keeps slot (live.Span piece attempted) at cause works =
      held_onward b (given_back (with_slot b slot None) (live.Span piece attempted) at cause) (back_moves b slot (live.Span piece attempted) at cause works) refl
      (set_some b.returned slot None returned_some (All-nil IsNonempty)) h
  back_keeps slot (live.Key turn) at cause works =
      held_onward b (given_back (with_slot b slot None) (live.Key turn) at cause) (back_moves b slot (live.Key turn) at cause works) refl
      (set_some b.returned slot None returned_some (All-nil IsNonempty)) h
  back_keeps slot (live.Batch batch) at cause works =
      let one = All-head IsNonempty batch [] (All-flat_at batch_of b.slots slot IsNonempty (Some (live.Batch batch)) works live_some) in
      held_onward b (given_back (with_slot b slot None) (live.Batch batch) at cause) (back_moves b slot (live.Batch batch) at cause works) refl
      (set_some (b.returned ++ tried_batch batch ∷ []) slot None
      (All-append IsNonempty b.returned (tried_batch batch ∷ []) returned_some (one_some (tried_batch batch) one)) (All-nil IsNonempty)) h

-- ---- a commit

pub group_within : (plan : Plan) (node : ℕ) → is_group plan node ≡ true → node < length plan.nodes
group_within plan node e = by (slice_get plan.nodes node) refl e
  where
    by : (found : Option Node) → slice_get plan.nodes node ≡ found → unwrap_or (option_map (λ n. is_group_kind n.kind) found) false ≡ true → node < length plan.nodes
    by None at e = absurd (cc)
    by (Some n) at e = slice_get_within plan.nodes node n at

pub get_front : {X : Type 0} (xs ys : List X) (i : ℕ) (x : X) → slice_get xs i ≡ Some x → slice_get (xs ++ ys) i ≡ Some x
get_front [] ys i x e = absurd (cc)
get_front (y ∷ xs) ys zero x e = e
get_front (y ∷ xs) ys (suc i) x e = get_front xs ys i x e

pub get_at_end : {X : Type 0} (xs : List X) (y : X) (ys : List X) → slice_get (xs ++ y ∷ ys) (length xs) ≡ Some y
get_at_end [] y ys = refl
get_at_end (x ∷ xs) y ys = get_at_end xs y ys

well_longer : (panes more : List Pane) (held : HeldPane) → is_well panes held ≡ true → is_well (panes ++ more) held ≡ true
well_longer panes more held h =
    let found = well_is panes held h in
    well_from (panes ++ more) held found.0 (get_front panes more held.waiting.pane found.0 found.1) found.2

module _ (before : List StageMarks) where
  fired_well : (panes fired : List Pane) (n : ℕ) → n ≡ length panes → AreWell (panes ++ fired) (map (held_fired before) (enumerate_from n fired))
  fired_well panes [] n e = All-nil (λ h. is_well (panes ++ []) h ≡ true)
  fired_well panes (p ∷ ps) n e =
      let at : slice_get (panes ++ p ∷ ps) n ≡ Some p = ap (slice_get (panes ++ p ∷ ps)) e ∙ get_at_end panes p ps in
      let next : n + 1 ≡ length (panes ++ p ∷ []) = omega (arith, length-append panes (p ∷ [])) in
      All-cons (λ h. is_well (panes ++ p ∷ ps) h ≡ true) (held_fired before (n, p)) (map (held_fired before) (enumerate_from (n + 1) ps))
      (well_from (panes ++ p ∷ ps) (held_fired before (n, p)) p at refl)
      (subst (λ (l : List Pane). AreWell l (map (held_fired before) (enumerate_from (n + 1) ps))) (append_assoc panes (p ∷ []) ps)
      (fired_well (panes ++ p ∷ []) ps (n + 1) next))

  -- none of a lower place fired, and of each place at most one
  fired_above : (place n : ℕ) (fired : List Pane) → place < n → count_by (is_held_at place) (map (held_fired before) (enumerate_from n fired)) ≡ 0
  fired_above place n [] less = refl
  fired_above place n (p ∷ ps) less =
      let sum = sum_by-cons (λ (h : HeldPane). cond {A = ℕ} (is_held_at place h) 1 0) (held_fired before (n, p)) (map (held_fired before) (enumerate_from (n + 1) ps)) in
      let off : cond {A = ℕ} (n == place) 1 0 ≡ 0 = grind (arith, nat_tests) in
      omega (arith, sum, off, fired_above place (n + 1) ps (omega arith))

  fired_once : (place n : ℕ) (fired : List Pane) → count_by (is_held_at place) (map (held_fired before) (enumerate_from n fired)) ≤ 1
  fired_once place n [] = omega arith
  fired_once place n (p ∷ ps) =
      let sum = sum_by-cons (λ (h : HeldPane). cond {A = ℕ} (is_held_at place h) 1 0) (held_fired before (n, p)) (map (held_fired before) (enumerate_from (n + 1) ps)) in
      let later = fired_once place (n + 1) ps in
      elim (cases_lt place (n + 1)) [
        | inl low ↦
            let above = fired_above place (n + 1) ps low in
            let most : cond {A = ℕ} (n == place) 1 0 ≤ 1 = grind (arith, nat_tests) in
            omega (arith, sum, above, most)
        | inr high ↦
            let off : cond {A = ℕ} (n == place) 1 0 ≡ 0 = grind (arith, nat_tests) in
            omega (arith, sum, off, later)
      ]

-- a place behind the panes is not held
held_below : (panes : List Pane) (place : ℕ) (held : List HeldPane) → length panes ≤ place → AreWell panes held → count_by (is_held_at place) held ≡ 0
held_below panes place held high well =
    count_none (is_held_at place) held
    (All-weaker (λ h. is_well panes h ≡ true) (λ h. is_held_at place h ≡ false) (λ h e. low h (well_is panes h e)) held well)
  where
    low : (h : HeldPane) → (pane : Pane) × (slice_get panes h.waiting.pane ≡ Some pane) × (pane.node ≡ h.node) → is_held_at place h ≡ false
    low h found = let less = slice_get_within panes h.waiting.pane found.0 found.1 in grind (arith, nat_tests)

module _ (told : Option (List FileText)) (b : SeenBook) (slot : ℕ) (job : Live) (receipt : Receipt) (cells : List Cell) (fired : List Pane) (marks : List StageMarks)
    (formed : IsWellFormed b) (h : AreHeldOnce b) (made : Commits told b slot job receipt cells fired marks) where
  abbrev after : SeenBook
  after = committed b slot job receipt cells fired marks

  fired_at_nodes : All (λ pane. pane.node < length b.queues) fired
  fired_at_nodes =
      All-weaker (λ pane. is_group b.plan pane.node ≡ true) (λ pane. pane.node < length b.queues)
      (λ pane e. subst (λ (n : ℕ). pane.node < n) (sym formed.queues) (group_within b.plan pane.node e)) fired
      made.rounds.at_groups

  pub commit_bag : IsSameBag (held after ++ flat_map held_in (batch_of (Some job))) (held b ++ fired_held b fired)
  commit_bag = commit_moves b slot job receipt cells fired marks made.works fired_at_nodes

  all_after : AreWell (b.panes ++ fired) (held b ++ fired_held b fired)
  all_after =
      All-append (λ x. is_well (b.panes ++ fired) x ≡ true) (held b) (fired_held b fired)
      (All-weaker (λ x. is_well b.panes x ≡ true) (λ x. is_well (b.panes ++ fired) x ≡ true) (well_longer b.panes fired) (held b) (all_well b h.panes))
      (fired_well (last_marks b) b.panes fired (length b.panes) refl)

  once_after : (place : ℕ) → count_by (is_held_at place) (held after) ≤ 1
  once_after place =
      let bag = bag_count (is_held_at place) (held after ++ flat_map held_in (batch_of (Some job))) (held b ++ fired_held b fired) commit_bag in
      let left = count-append (is_held_at place) (held after) (flat_map held_in (batch_of (Some job))) in
      let right = count-append (is_held_at place) (held b) (fired_held b fired) in
      let old = h.once place in
      elim (cases_lt place (length b.panes)) [
        | inl low ↦ omega (arith, bag, left, right, old, fired_above (last_marks b) place (length b.panes) fired low)
        | inr high ↦
            omega (arith, bag, left, right, held_below b.panes place (held b) high (all_well b h.panes), fired_once (last_marks b) place (length b.panes) fired)
      ]

  commit_keeps_held : AreHeldOnce after
  commit_keeps_held = record {
    panes = well_all after
        (All-append_left (λ x. is_well (b.panes ++ fired) x ≡ true) (held after) (flat_map held_in (batch_of (Some job)))
        (All-of_bag (is_well (b.panes ++ fired)) (held b ++ fired_held b fired) (held after ++ flat_map held_in (batch_of (Some job)))
        (bag_sym (held after ++ flat_map held_in (batch_of (Some job))) (held b ++ fired_held b fired) commit_bag) all_after));
    once = once_after;
    batches = set_some b h b.returned slot None (returned_some b h) (All-nil IsNonempty);
  }

-- ---- each step

counted_held : (b : SeenBook) (cause : Cause) → AreHeldOnce b → AreHeldOnce (counted b cause)
counted_held b Call h = record { panes = h.panes; once = h.once; batches = h.batches }
counted_held b Read h = record { panes = h.panes; once = h.once; batches = h.batches }

stop_held : (b : SeenBook) (stopped : Option StopCause) → AreHeldOnce b → AreHeldOnce (record b { stopped = stopped })
stop_held b stopped h = record { panes = h.panes; once = h.once; batches = h.batches }

stop_where_held : (spent : Bool) (b : SeenBook) (note : FaultNote) → AreHeldOnce b → AreHeldOnce (stopped_where spent b note)
stop_where_held true b note h = stop_held b (or_stopped b.stopped (stop.Spent note)) h
stop_where_held false b note h = h

none_queued : (n : ℕ) (nodes : List Node) → queued_from n (map (λ node. []) nodes) ≡ []
none_queued n [] = refl
none_queued n (node ∷ nodes) = none_queued (n + 1) nodes

pub none_held : (b : SeenBook) (marks : List StageMarks) → held (opened b.plan b.files b.options marks) ≡ []
none_held b marks = ap (λ (l : List HeldPane). l ++ []) (none_queued 0 b.plan.nodes)

opening_held : (b first : SeenBook) → IsOpening b.plan b.files b.options first → AreHeldOnce first
opening_held b first opening =
    let empty = none_held b opening.marks in
    subst AreHeldOnce (sym opening.is) (record {
      panes = subst (All (IsHeldPane (opened b.plan b.files b.options opening.marks))) (sym empty) (All-nil (IsHeldPane (opened b.plan b.files b.options opening.marks)));
      once = λ place. omega (arith, ap (count_by (is_held_at place)) empty);
      batches = All-nil IsNonempty;
    })

pub keeps_held : (told : Option (List FileText)) → Keeps told IsWellFormed AreHeldOnce
keeps_held told = record {
  opens = opening_held;
  enrolls = λ b formed h within.
      held_onward b (enrolled b) (enroll_moves b) refl
      (subst (λ (l : List Batch). All IsNonempty (b.returned ++ l)) (sym (flat_map-append batch_of b.slots (None ∷ [])))
      (All-append IsNonempty b.returned (live_batches b ++ []) (returned_some b h) (All-append IsNonempty (live_batches b) [] (live_some b h) (All-nil IsNonempty)))) h;
  takes = λ b slot next formed h running free is within. take_keeps b h formed slot next free is;
  claims = λ b slot p piece attempted formed h works may.
      set_keeps b h slot (Some (live.Span piece attempted)) (Some (live.Span piece (Some p))) works.works refl refl;
  splits = λ b slot at piece attempted formed h works inside behind within.
      let set = set_keeps b h slot (Some (live.Span piece attempted)) (Some (live.Span (cut_to piece (record { from = piece.range.from; to = at })) attempted)) works refl refl in
      record { panes = set.panes; once = set.once; batches = set.batches };
  commits = λ b slot job receipt cells fired marks formed h made. commit_keeps_held told b slot job receipt cells fired marks formed h made;
  fails = λ b slot at job cause formed h works fresh unbroken.
      stop_where_held (ends_run b job cause) (counted (given_back (with_slot b slot None) job at cause) cause) (note_of job at cause)
      (counted_held (given_back (with_slot b slot None) job at cause) cause (back_keeps b h slot job at cause works));
  breaks = λ b slot at piece attempted formed h works fresh is.
      let back = back_keeps b h slot (live.Span piece attempted) at Call works in
      record { panes = back.panes; once = back.once; batches = back.batches };
  stops = λ b formed h. stop_held b (or_stopped b.stopped stop.NoMemory) h;
}

pub held_always : (told : Option (List FileText)) → AreAlways told (Both IsWellFormed AreHeldOnce)
held_always told = kept_with told IsWellFormed AreHeldOnce (formed_always told) (keeps_held told)
