-- A job is taken: where what is due is found, and what is kept of the book's indexes.
use Rattle.std.proofs.Common.{◌≡◌, ◌⊎◌, inl, inr, ℕ, is_none, zero, suc, ◌+◌, ◌≤◌, ◌<◌, Bool, true, false, cond, List, [], ◌∷◌, ◌++◌, length, take, drop, get_or, refl, sym, ap, subst, ◌∙◌, arith}
use Rattle.std.specs.Prelude.{slice_get, slice_set, ◌==◌, not, nat_lt, Option, Some, None}
use Rattle.std.specs.List.{All, sum_by, flat_map, filter, fold, list_all, remove}
use Rattle.std.proofs.lemmas.Bool.Decides.{nat_tests}
use Rattle.std.proofs.lemmas.List.{take_more}
use Rattle.std.proofs.lemmas.List.Elements.{filter-append, All-nil, All-cons, All-head, All-tail}
use Rattle.std.proofs.lemmas.List.Sums.{fold-append}
use Rattle.std.proofs.Math.Seq.{split_at}
use Rattle.std.proofs.lemmas.Option.{slice_get-get_or, slice_get_within, get_or_from_slice_get}
use Rattle.beam_values.specs.Bags.{IsSameBag}
use Rattle.beam_values.proofs.Bags.{bag_sym}
use Rattle.beam_values.specs.Lines.{offsets}
use Rattle.beam_values.specs.declared.piece.Piece.{Piece}
use Rattle.beam_values.specs.Checked.{IsChecked}
use Rattle.beam_values.specs.declared.cell.Pane.{Pane}
use Rattle.beam_values.specs.declared.graph_refusal.GraphRefusal.{GraphRefusal}
use Rattle.beam_values.specs.declared.graph_refusal.GraphRefusal.TheVariants as refusal
use Rattle.beam_values.specs.declared.plan.Plan.{Plan}
use Rattle.bundle_commit.specs.declared.job.Job.{Job}
use Rattle.bundle_commit.specs.declared.job.Job.TheVariants as job
use Rattle.watermarks.specs.Holds.{SeenHolds}
use Rattle.book_core.specs.Book.{SeenBook, HeldPane, held_in, piece_of, batch_of, live_batches, live_pieces, most_parts, places_kept, queue_at, pane_at}
use Rattle.book_core.specs.Calls.{Makes, answer_of}
use Rattle.book_core.specs.Changes.{with_slot}
use Rattle.book_core.specs.DueAt.{IsBatchAt, IsDueAs}
use Rattle.book_core.specs.Facts.{AreHeldOnce, is_held_at}
use Rattle.book_core.specs.Indexes.{IsIndexed, own_holds}
use Rattle.book_core.specs.Jobs.{Due, GivenBack, Oldest, Next, first_due, due_at, or_due, due_or_other, without_due, without_first, next_job, first_pane, lower_batch, lowest_of, job_of, key_or_piece, next_cell, with_key}
use Rattle.book_core.specs.Sane.{IsSane}
use Rattle.book_core.specs.Steps.{Take, TakenJob, IsRunning, IsFree, Step}
use Rattle.book_core.specs.declared.due.DueAt.{DueAt}
use Rattle.book_core.specs.declared.due.DueAt.TheVariants as at
use Rattle.book_core.specs.declared.live.Batch.{Batch}
use Rattle.book_core.specs.declared.live.Live.{Live}
use Rattle.book_core.specs.declared.live.Live.TheVariants as live
use Rattle.book_core.specs.declared.live.Taken.TheVariants as taken
use Rattle.book_core.specs.declared.live.WaitingPane.{WaitingPane}
use Rattle.book_core.proofs.HeldMoves.{IsNonempty, without_one, held_weighs}
use Rattle.book_core.proofs.HoldBags.{take_holds}
use Rattle.book_core.proofs.Holding.{bag_held}
use Rattle.book_core.proofs.Limits.{pieces_after, batches_after, kept_same, take_within}
use Rattle.book_core.proofs.SaneAlways.{step_sane}
use Rattle.book_core.proofs.Slotted.{All-append_left}
use Rattle.std.specs.Option.{option_map}
use Rattle.stateful_core.specs.Cells.{KeyCell}
use Rattle.stateful_core.specs.Taking.{IsTaken, change, with_job}
use Rattle.stateful_core.specs.declared.key_job.KeyTurn.{KeyTurn}
use Rattle.book_core.specs.Book.{last_marks, waiting_in}
use Rattle.book_core.proofs.KeyChanges.{change_weighs}
use Rattle.book_core.proofs.Taking.{first_is_due}

-- ---- what is due first

some_stays : (b : SeenBook) (due : Due) (nodes : List ℕ) → fold (or_due b) (Some due) nodes ≡ Some due
some_stays b due [] = refl
some_stays b due (node ∷ nodes) = some_stays b due nodes

none_due : (b : SeenBook) (from n : ℕ) → ((k : ℕ) → k < from + n → due_at b k ≡ None) → fold (or_due b) None (offsets from n) ≡ None
unfolding offsets
none_due b from zero none = refl
none_due b from (suc n) none =
    ap (λ (o : Option Due). fold (or_due b) o (offsets (suc from) n)) (none from (omega arith)) ∙ none_due b (suc from) n (λ k less. none k (omega (arith, less)))

some_due : (b : SeenBook) (from n k : ℕ) (due : Due) → from ≤ k → k < from + n → ((j : ℕ) → j < k → due_at b j ≡ None) → due_at b k ≡ Some due
    → fold (or_due b) None (offsets from n) ≡ Some due
unfolding offsets
some_due b from zero k due low high none here = absurd (omega arith)
some_due b from (suc n) k due low high none here = by (here_or_later from k low) (λ later. some_due b (suc from) n k due (omega (arith, later)) (omega (arith, high)) none here)
  where
    here_or_later : (from k : ℕ) → from ≤ k → (from ≡ k) ⊎ (from < k)
    here_or_later from k low = grind arith

    by : (from ≡ k) ⊎ (from < k) → (from < k → fold (or_due b) None (offsets (suc from) n) ≡ Some due) → fold (or_due b) (due_at b from) (offsets (suc from) n) ≡ Some due
    by (inl e) onward = ap (λ (o : Option Due). fold (or_due b) o (offsets (suc from) n)) (ap (due_at b) e ∙ here) ∙ some_stays b due (offsets (suc from) n)
    by (inr later) onward = ap (λ (o : Option Due). fold (or_due b) o (offsets (suc from) n)) (none from later) ∙ onward later

pub found_first : (b : SeenBook) (node : ℕ) (place : DueAt) → node < length b.plan.nodes → ((k : ℕ) → k < node → due_at b k ≡ None) → IsDueAs b (due_at b node) (Some place)
    → IsDueAs b (first_due b) (Some place)
found_first b node (at.GivenBack place) less none h =
    (h.0, h.1, some_due b 0 (length b.plan.nodes) node (GivenBack h.0) (omega arith) (omega (arith, less)) none h.2)
found_first b node (at.Oldest other) less none h = some_due b 0 (length b.plan.nodes) node _ (omega arith) (omega (arith, less)) none h

pub found_none : (b : SeenBook) → ((k : ℕ) → k < length b.plan.nodes → due_at b k ≡ None) → IsDueAs b (first_due b) None
found_none b none = none_due b 0 (length b.plan.nodes) (λ k less. none k (omega (arith, less)))

pub none_more : (b : SeenBook) (node : ℕ) (found : Option DueAt) → found ≡ None → IsDueAs b (due_at b node) found → ((k : ℕ) → k < node → due_at b k ≡ None)
    → (k : ℕ) → k < node + 1 → due_at b k ≡ None
none_more b node found e h none k less = by (below_or_at k node less)
  where
    below_or_at : (k node : ℕ) → k < node + 1 → (k < node) ⊎ (k ≡ node)
    below_or_at k node less = grind arith

    by : (k < node) ⊎ (k ≡ node) → due_at b k ≡ None
    by (inl below) = none k below
    by (inr here) = ap (due_at b) here ∙ subst (IsDueAs b (due_at b node)) e h

-- ---- the lowest batch

last_lowest : (p : Batch → Bool) (xs : List Batch) (x : Batch) (t : Bool) → p x ≡ t
    → lowest_of (filter p (xs ++ x ∷ [])) ≡ cond t (lower_batch (lowest_of (filter p xs)) x) (lowest_of (filter p xs))
last_lowest p xs x true e =
    ap lowest_of (filter-append p xs (x ∷ [])) ∙ fold-append lower_batch None (filter p xs) (filter p (x ∷ []))
    ∙ ap (λ (b : Bool). fold lower_batch (lowest_of (filter p xs)) (cond b (x ∷ []) [])) e
last_lowest p xs x false e =
    ap lowest_of (filter-append p xs (x ∷ [])) ∙ fold-append lower_batch None (filter p xs) (filter p (x ∷ []))
    ∙ ap (λ (b : Bool). fold lower_batch (lowest_of (filter p xs)) (cond b (x ∷ []) [])) e

pub lowest_more : (batches : List Batch) (node i : ℕ) (lowest next : Option ℕ) → i < length batches
    → ((found : Option Batch) (batch : Batch) → slice_get batches i ≡ Some batch → IsBatchAt batches lowest found
    → IsBatchAt batches next (cond (batch.node == node) (lower_batch found batch) found))
    → IsBatchAt batches lowest (lowest_of (filter (λ batch. batch.node == node) (take i batches)))
    → IsBatchAt batches next (lowest_of (filter (λ batch. batch.node == node) (take (i + 1) batches)))
lowest_more [] node i lowest next less step h = absurd (omega arith)
lowest_more (first ∷ rest) node i lowest next less step h =
    let x = get_or (first ∷ rest) i first in
    let p : Batch → Bool = λ batch. batch.node == node in
    subst (IsBatchAt (first ∷ rest) next)
    (sym (ap (λ (l : List Batch). lowest_of (filter p l)) (take_more (first ∷ rest) i first less) ∙ last_lowest p (take i (first ∷ rest)) x (p x) refl))
    (step (lowest_of (filter p (take i (first ∷ rest)))) x (slice_get-get_or (first ∷ rest) i first less) h)

pub pane_none : (panes : List Pane) (waiting : WaitingPane) → None ≡ slice_get panes waiting.pane → pane_at panes waiting ≡ []
pane_none panes waiting e = ap (λ (o : Option Pane). elim o [ Some pane ↦ pane ∷ [] | None ↦ [] ]) (sym e)

-- ---- a batch is taken out

removed_is : (b : SeenBook) (place : ℕ) (batch : Batch) → AreHeldOnce b → slice_get b.returned place ≡ Some batch
    → filter (λ other. not (first_pane other == first_pane batch)) b.returned ≡ remove b.returned place
removed_is b place batch once here =
    let within = slice_get_within b.returned place batch here in
    let own : get_or b.returned place batch ≡ batch = get_or_from_slice_get b.returned place batch batch here in
    let parts : b.returned ≡ take place b.returned ++ batch ∷ drop (suc place) b.returned =
    split_at b.returned place batch within ∙ ap (λ (x : Batch). take place b.returned ++ x ∷ drop (suc place) b.returned) own in
    let w : HeldPane → ℕ = λ held. cond (is_held_at (first_pane batch) held) 1 0 in
    ap (filter (λ other. not (first_pane other == first_pane batch))) parts
    ∙ without_one (take place b.returned) batch (drop (suc place) b.returned)
    (subst (All IsNonempty) parts (All-append_left IsNonempty b.returned (live_batches b) once.batches))
    (subst (λ (l : List Batch). sum_by (λ (x : Batch). sum_by w (held_in x)) l ≤ 1) parts (omega (arith, once.once (first_pane batch), held_weighs w b)))

-- ---- the steps

makes_take : (b : SeenBook) (slot : ℕ) (next : Next) → IsRunning b → IsFree b slot → next_job b ≡ Some next
    → length next.rest.pending + places_kept (with_slot next.rest slot (Some next.job)) < 4294967295 → IsSane b
    → Makes b slot Take (TakenJob (job_of b.panes next.job)) (with_slot next.rest slot (Some next.job))
makes_take b slot next running free is few sane = λ told. record {
  running = running;
  free = free;
  next = next;
  is_next = is;
  handed = refl;
  is = refl;
  within = take_within b slot next free is few sane.formed.within;
}

next_given : (b : SeenBook) (place : ℕ) → (h : IsDueAs b (first_due b) (Some (at.GivenBack place))) → next_job b ≡ Some (without_due b (GivenBack h.0))
next_given b place h = ap (due_or_other b) h.2

-- a batch that was given back is taken
module _ (b : SeenBook) (slot place : ℕ) (running : IsRunning b) (free : IsFree b slot) (h : IsDueAs b (first_due b) (Some (at.GivenBack place))) (sane : IsSane b) where
  abbrev after_given : SeenBook
  after_given = with_slot (record b { returned = remove b.returned place }) slot (Some (live.Batch h.0))

  given_is : with_slot (without_due b (GivenBack h.0)).rest slot (Some (live.Batch h.0)) ≡ after_given
  given_is = ap (λ (l : List Batch). with_slot (record b { returned = l }) slot (Some (live.Batch h.0))) (removed_is b place h.0 sane.held h.1)

  makes_given : Makes b slot Take (TakenJob (job_of b.panes (live.Batch h.0))) after_given
  makes_given =
      subst (Makes b slot Take (TakenJob (job_of b.panes (live.Batch h.0)))) given_is
      (makes_take b slot (without_due b (GivenBack h.0)) running free (next_given b place h)
      (omega (arith, sane.formed.within.pieces, kept_same b.plan b.slots slot None (Some (live.Batch h.0)) free refl)) sane)

  pub makes_returned : (batch : Batch) (job : Job) (returned : List Batch) (slots : List (Option Live)) → slice_get b.returned place ≡ Some batch → job ≡ job_of b.panes (live.Batch batch)
      → returned ≡ remove b.returned place → slots ≡ slice_set b.slots slot (Some (live.Batch batch))
      → Makes b slot Take (TakenJob job) (record b { returned = returned; slots = slots })
  makes_returned batch job returned slots here e f g =
      let first = h.1 in
      let same : h.0 ≡ batch = cc in
      let alike : record b { returned = returned; slots = slots } ≡ after_given =
      ap (λ (l : List Batch). record b { returned = l; slots = slots }) f
      ∙ ap (λ (s : List (Option Live)). record b { returned = remove b.returned place; slots = s }) (g ∙ ap (λ (x : Batch). slice_set b.slots slot (Some (live.Batch x))) (sym same)) in
      subst (Makes b slot Take (TakenJob job)) (sym alike)
      (subst (λ (j : Job). Makes b slot Take (TakenJob j) after_given) (sym (e ∙ ap (λ (x : Batch). job_of b.panes (live.Batch x)) (sym same))) makes_given)

  pub returned_indexed : (held_marks : List SeenHolds) (piece_room batch_room more : ℕ) (batch : Batch) (returned : List Batch) (slots : List (Option Live))
      → slice_get b.returned place ≡ Some batch → returned ≡ remove b.returned place → slots ≡ slice_set b.slots slot (Some (live.Batch batch)) → batch_room + 1 ≤ more
      → IsIndexed b held_marks piece_room batch_room → IsIndexed (record b { returned = returned; slots = slots }) held_marks piece_room more
  returned_indexed held_marks piece_room batch_room more batch returned slots here f g room k =
      let step = makes_returned batch (job_of b.panes (live.Batch batch)) returned slots here refl f g in
      let first = h.1 in
      let same : h.0 ≡ batch = cc in
      let alike : after_given ≡ record b { returned = returned; slots = slots } =
      ap (λ (l : List Batch). record b { returned = l; slots = slice_set b.slots slot (Some (live.Batch h.0)) }) (sym f)
      ∙ ap (λ (s : List (Option Live)). record b { returned = returned; slots = s }) (ap (λ (x : Batch). slice_set b.slots slot (Some (live.Batch x))) same ∙ sym g) in
      let bag = take_holds b slot (without_due b (GivenBack h.0)) sane.held free (next_given b place h) in
      record {
        sane = step_sane None b _ slot Take (TakenJob (job_of b.panes (live.Batch batch))) (step None) sane;
        sized = k.sized;
        holds_back = bag_held held_marks (own_holds b) (own_holds (record b { returned = returned; slots = slots }))
            (bag_sym (own_holds (record b { returned = returned; slots = slots })) (own_holds b)
            (subst (λ (d : SeenBook). IsSameBag (own_holds d) (own_holds b)) (given_is ∙ alike) bag)) k.holds_back;
        pieces = omega (arith, k.pieces, kept_same b.plan b.slots slot None (Some (live.Batch batch)) free refl, ap (λ (s : List (Option Live)). most_parts b.plan (length (flat_map piece_of s))) g);
        batches = omega (arith, k.batches, room, batches_after b.slots slot None (Some (live.Batch batch)) free, ap (λ (s : List (Option Live)). length (flat_map batch_of s)) g);
      }

-- the oldest panes of a queue are taken
abbrev pub oldest_batch : SeenBook → ℕ → Batch
oldest_batch b node = record { node = node; panes = take b.options.bundle (queue_at b node); attempts = 0 }

module _ (b : SeenBook) (slot node : ℕ) (running : IsRunning b) (free : IsFree b slot) (h : IsDueAs b (first_due b) (Some (at.Oldest node))) (sane : IsSane b) where
  abbrev after_oldest : SeenBook
  after_oldest = with_slot (record b { queues = slice_set b.queues node (drop b.options.bundle (queue_at b node)) }) slot (Some (live.Batch (oldest_batch b node)))

  next_oldest : next_job b ≡ Some (without_due b (Oldest (oldest_batch b node)))
  next_oldest = ap (due_or_other b) h

  oldest_as : (queues : List (List WaitingPane)) (slots : List (Option Live)) → queues ≡ slice_set b.queues node (drop b.options.bundle (queue_at b node))
      → slots ≡ slice_set b.slots slot (Some (live.Batch (oldest_batch b node))) → record b { queues = queues; slots = slots } ≡ after_oldest
  oldest_as queues slots f g =
      ap (λ (l : List (List WaitingPane)). record b { queues = l; slots = slots }) f
      ∙ ap (λ (s : List (Option Live)). record b { queues = slice_set b.queues node (drop b.options.bundle (queue_at b node)); slots = s }) g

  pub makes_oldest : (job : Job) (queues : List (List WaitingPane)) (slots : List (Option Live)) → job ≡ job_of b.panes (live.Batch (oldest_batch b node))
      → queues ≡ slice_set b.queues node (drop b.options.bundle (queue_at b node)) → slots ≡ slice_set b.slots slot (Some (live.Batch (oldest_batch b node)))
      → Makes b slot Take (TakenJob job) (record b { queues = queues; slots = slots })
  makes_oldest job queues slots e f g =
      subst (Makes b slot Take (TakenJob job)) (sym (oldest_as queues slots f g))
      (subst (λ (j : Job). Makes b slot Take (TakenJob j) after_oldest) (sym e) (makes_take b slot (without_due b (Oldest (oldest_batch b node))) running free next_oldest
      (omega (arith, sane.formed.within.pieces, kept_same b.plan b.slots slot None (Some (live.Batch (oldest_batch b node))) free refl)) sane))

  pub oldest_indexed : (held_marks : List SeenHolds) (piece_room batch_room more : ℕ) (queues : List (List WaitingPane)) (slots : List (Option Live))
      → queues ≡ slice_set b.queues node (drop b.options.bundle (queue_at b node)) → slots ≡ slice_set b.slots slot (Some (live.Batch (oldest_batch b node)))
      → length (live_batches b) + 1 ≤ more
      → IsIndexed b held_marks piece_room batch_room → IsIndexed (record b { queues = queues; slots = slots }) held_marks piece_room more
  oldest_indexed held_marks piece_room batch_room more queues slots f g room k =
      let bag = take_holds b slot (without_due b (Oldest (oldest_batch b node))) k.sane.held free next_oldest in
      record {
        sane = step_sane None b _ slot Take (TakenJob (job_of b.panes (live.Batch (oldest_batch b node)))) (makes_oldest (job_of b.panes (live.Batch (oldest_batch b node))) queues slots refl f g None) k.sane;
        sized = k.sized;
        holds_back = bag_held held_marks (own_holds b) (own_holds (record b { queues = queues; slots = slots }))
            (bag_sym (own_holds (record b { queues = queues; slots = slots })) (own_holds b)
            (subst (λ (d : SeenBook). IsSameBag (own_holds d) (own_holds b)) (sym (oldest_as queues slots f g)) bag)) k.holds_back;
        pieces = omega (arith, k.pieces, kept_same b.plan b.slots slot None (Some (live.Batch (oldest_batch b node))) free refl, ap (λ (s : List (Option Live)). most_parts b.plan (length (flat_map piece_of s))) g);
        batches = omega (arith, room, batches_after b.slots slot None (Some (live.Batch (oldest_batch b node))) free, ap (λ (s : List (Option Live)). length (flat_map batch_of s)) g);
      }

-- the job of a key cell is taken
module _ (b : SeenBook) (slot : ℕ) (turn : KeyTurn) (keys : List KeyCell) (slots : List (Option Live)) (running : IsRunning b) (free : IsFree b slot) (none : first_due b ≡ None)
    (found : IsTaken (last_marks b) b.options.bundle b.keys turn keys) (g : slots ≡ slice_set b.slots slot (Some (live.Key turn))) (sane : IsSane b) where
  abbrev cell_next : Next
  cell_next = with_key b found.place.at found.cell

  next_key : next_job b ≡ Some cell_next
  next_key = ap (due_or_other b) none ∙ ap (key_or_piece b) found.next ∙ ap (option_map (with_key b found.place.at)) found.is_at

  taken_is : record b { keys = keys; slots = slots } ≡ with_slot cell_next.rest slot (Some cell_next.job)
  taken_is =
      ap (λ (l : List KeyCell). record b { keys = l; slots = slots }) found.is
      ∙ ap (λ (l : List (Option Live)). record b { keys = change (with_job b.options.bundle) found.place.at b.keys; slots = l })
      (g ∙ ap (λ (t : KeyTurn). slice_set b.slots slot (Some (live.Key t))) found.handed)

  pub makes_key : (handed : Job) → handed ≡ job_of [] (live.Key turn) → Makes b slot Take (TakenJob handed) (record b { keys = keys; slots = slots })
  makes_key handed e =
      subst (λ (j : Job). Makes b slot Take (TakenJob j) (record b { keys = keys; slots = slots })) (sym (e ∙ ap (λ (t : KeyTurn). job_of [] (live.Key t)) found.handed))
      (subst (λ (d : SeenBook). Makes b slot Take (TakenJob (job_of b.panes cell_next.job)) d) (sym taken_is) (makes_take b slot cell_next running free next_key
      (omega (arith, sane.formed.within.pieces, kept_same b.plan b.slots slot None (Some cell_next.job) free refl)) sane))

  pub key_counted : waiting_in keys ≡ waiting_in b.keys
  key_counted = ap waiting_in found.is ∙ change_weighs (λ (c : KeyCell). length c.waiting) (with_job b.options.bundle) (λ c. refl) found.place.at b.keys

  pub key_indexed : (held_marks : List SeenHolds) (piece_room batch_room : ℕ) → IsIndexed b held_marks piece_room batch_room
      → IsIndexed (record b { keys = keys; slots = slots }) held_marks piece_room batch_room
  key_indexed held_marks piece_room batch_room k =
      let bag = take_holds b slot cell_next k.sane.held free next_key in
      record {
        sane = step_sane None b _ slot Take (TakenJob (job_of [] (live.Key turn))) (makes_key (job_of [] (live.Key turn)) refl None) k.sane;
        sized = k.sized;
        holds_back = bag_held held_marks (own_holds b) (own_holds (record b { keys = keys; slots = slots }))
            (bag_sym (own_holds (record b { keys = keys; slots = slots })) (own_holds b) (subst (λ (d : SeenBook). IsSameBag (own_holds d) (own_holds b)) (sym taken_is) bag)) k.holds_back;
        pieces = omega (arith, k.pieces, kept_same b.plan b.slots slot None (Some (live.Key turn)) free refl, ap (λ (s : List (Option Live)). most_parts b.plan (length (flat_map piece_of s))) g);
        batches = omega (arith, k.batches, batches_after b.slots slot None (Some (live.Key turn)) free, ap (λ (s : List (Option Live)). length (flat_map batch_of s)) g);
      }

-- the lowest piece is taken
module _ (b : SeenBook) (slot : ℕ) (piece : Piece) (pending : List Piece) (slots : List (Option Live)) (running : IsRunning b) (free : IsFree b slot) (none : first_due b ≡ None)
    (no_cell : next_cell b ≡ None) (parts : b.pending ≡ piece ∷ pending) (g : slots ≡ slice_set b.slots slot (Some (live.Span piece None)))
    (few : length b.pending + most_parts b.plan (length (live_pieces b) + 1) < 4294967296) (sane : IsSane b) where
  abbrev rest_next : Next
  rest_next = record { job = live.Span piece None; rest = record b { pending = pending } }

  next_piece : next_job b ≡ Some rest_next
  next_piece = ap (due_or_other b) none ∙ ap (key_or_piece b) no_cell ∙ ap (without_first b) parts

  -- one piece more is worked
  one_more : places_kept (with_slot rest_next.rest slot (Some rest_next.job)) ≡ most_parts b.plan (length (live_pieces b) + 1)
  one_more = ap (most_parts b.plan) (omega (arith, pieces_after b.slots slot None (Some (live.Span piece None)) free))

  pub makes_piece : Makes b slot Take (TakenJob (job.Span piece)) (record b { pending = pending; slots = slots })
  makes_piece =
      subst (λ (s : List (Option Live)). Makes b slot Take (TakenJob (job.Span piece)) (record b { pending = pending; slots = s })) (sym g)
      (makes_take b slot rest_next running free next_piece (omega (arith, few, one_more, ap (length {A = Piece}) parts)) sane)

  pub takes_piece : (handed : Job) → handed ≡ job.Span piece → Makes b slot Take (TakenJob handed) (record b { pending = pending; slots = slots })
  takes_piece handed e = subst (λ (j : Job). Makes b slot Take (TakenJob j) (record b { pending = pending; slots = slots })) (sym e) makes_piece

  pub piece_indexed : (held_marks : List SeenHolds) (piece_room batch_room more : ℕ) → most_parts b.plan (length (live_pieces b) + 1) ≤ more
      → IsIndexed b held_marks piece_room batch_room → IsIndexed (record b { pending = pending; slots = slots }) held_marks more batch_room
  piece_indexed held_marks piece_room batch_room more room k =
      let bag = take_holds b slot rest_next k.sane.held free next_piece in
      record {
        sane = step_sane None b _ slot Take (TakenJob (job.Span piece)) (makes_piece None) k.sane;
        sized = k.sized;
        holds_back = bag_held held_marks (own_holds b) (own_holds (record b { pending = pending; slots = slots }))
            (bag_sym (own_holds (record b { pending = pending; slots = slots })) (own_holds b)
            (subst (λ (s : List (Option Live)). IsSameBag (own_holds (record b { pending = pending; slots = s })) (own_holds b)) (sym g) bag)) k.holds_back;
        pieces = omega (arith, room, one_more, ap (λ (s : List (Option Live)). most_parts b.plan (length (flat_map piece_of s))) g);
        batches = omega (arith, k.batches, batches_after b.slots slot None (Some (live.Span piece None)) free, ap (λ (s : List (Option Live)). length (flat_map batch_of s)) g);
      }

-- nothing is taken
idle_if : (slots : List (Option Live)) → list_all is_none slots ≡ true → All (λ slot. slot ≡ None) slots
idle_if [] e = All-nil (λ (s : Option Live). s ≡ None)
idle_if (None ∷ slots) e = All-cons (λ (s : Option Live). s ≡ None) None slots refl (idle_if slots e)
idle_if (Some job ∷ slots) e = absurd (cc)

not_idle : (slots : List (Option Live)) → list_all is_none slots ≡ false → All (λ slot. slot ≡ None) slots → ⊥
not_idle [] e idle = absurd (cc)
not_idle (None ∷ slots) e idle = not_idle slots e (All-tail (λ (s : Option Live). s ≡ None) None slots idle)
not_idle (Some job ∷ slots) e idle = let none = All-head (λ (s : Option Live). s ≡ None) (Some job) slots idle in absurd (cc)

pub makes_nothing : (b : SeenBook) (slot : ℕ) → IsRunning b → IsFree b slot → first_due b ≡ None → next_cell b ≡ None → b.pending ≡ []
    → Makes b slot Take (answer_of (cond (list_all is_none b.slots) taken.Finished taken.Nothing)) b
makes_nothing b slot running free none no_cell empty told = by (list_all is_none b.slots) refl
  where
    next_none : next_job b ≡ None
    next_none = ap (due_or_other b) none ∙ ap (key_or_piece b) no_cell ∙ ap (without_first b) empty

    by : (t : Bool) → list_all is_none b.slots ≡ t → Step told b slot Take (answer_of (cond t taken.Finished taken.Nothing)) b
    by true e = (running, free, next_none, idle_if b.slots e, refl)
    by false e = (running, free, next_none, not_idle b.slots e, refl)

-- ---- what the code finds

pub oldest_within : (b : SeenBook) (node : ℕ) → IsDueAs b (first_due b) (Some (at.Oldest node)) → node < length b.queues
oldest_within b node h =
    let there = first_is_due b (Oldest (oldest_batch b node)) h in
    slice_get_within b.queues node (there.first ∷ there.later) there.queue

pub more_batches : (b : SeenBook) (held_marks : List SeenHolds) (piece_room batch_room more : ℕ) (returned : List Batch) → returned ≡ b.returned → batch_room ≤ more
    → IsIndexed b held_marks piece_room batch_room → IsIndexed (record b { returned = returned }) held_marks piece_room more
more_batches b held_marks piece_room batch_room more returned e room k =
    subst (λ (l : List Batch). IsIndexed (record b { returned = l }) held_marks piece_room more) (sym e)
    (record { sane = k.sane; sized = k.sized; holds_back = k.holds_back; pieces = k.pieces; batches = omega (arith, k.batches, room) })

pub batch_is : (b : SeenBook) (node : ℕ) (panes queue : List WaitingPane) → panes ≡ take b.options.bundle queue → queue_at b node ≡ queue
    → record { node = node; panes = panes; attempts = 0 } ≡ oldest_batch b node
batch_is b node panes queue e f = ap (λ (l : List WaitingPane). record { node = node; panes = l; attempts = 0 }) (e ∙ ap (take b.options.bundle) (sym f))

pub not_found : (found : Option DueAt) → ((place : DueAt) → found ≡ Some place → ⊥) → found ≡ None
not_found None h = refl
not_found (Some place) h = absurd (h place refl)

few_of : (n : ℕ) (none many : Bool) (rest : Option GraphRefusal) → (n == 0) ≡ none → nat_lt 64 n ≡ many
    → cond none (Some refusal.Empty) (cond many (Some refusal.TooMany) rest) ≡ None → n ≤ 64
few_of n true many rest e f h = absurd (cc)
few_of n false true rest e f h = absurd (cc)
few_of n false false rest e f h = grind (arith, nat_tests)

pub few_nodes : (plan : Plan) → IsChecked plan → length plan.nodes ≤ 64
few_nodes plan checked = few_of (length plan.nodes) (length plan.nodes == 0) (nat_lt 64 (length plan.nodes)) _ refl refl checked.unrefused

pub same_returned : (b new : SeenBook) (slot : ℕ) (handed : Job) (returned : List Batch) → returned ≡ new.returned → Makes b slot Take (TakenJob handed) new
    → Makes b slot Take (TakenJob handed) (record new { returned = returned })
same_returned b new slot handed returned e h = subst (λ (l : List Batch). Makes b slot Take (TakenJob handed) (record new { returned = l })) (sym e) h
