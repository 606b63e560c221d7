-- What is held moves as one bag: takes and fails keep it, and a commit changes its batch for the panes that it fires.
use Rattle.std.proofs.Common.{◌≡◌, ℕ, ◌+◌, ◌<◌, ◌≤◌, Bool, true, false, not, cond, List, [], ◌∷◌, ◌++◌, length, map, refl, ap, subst, ◌∙◌, arith}
use Rattle.std.specs.Prelude.{Option, Some, None, ◌==◌, slice_get, take, drop, unwrap_or}
use Rattle.std.specs.List.{All, filter, flat_map, sum_by, count_by, enumerate_from}
use Rattle.std.proofs.lemmas.Bool.Decides.{nat_tests}
use Rattle.std.proofs.lemmas.List.{take-append-drop}
use Rattle.std.proofs.lemmas.List.Concat.{flat_map-append}
use Rattle.std.proofs.lemmas.List.Elements.{All-nil, All-cons, All-head, All-tail, filter-append}
use Rattle.std.proofs.lemmas.List.Sums.{sum_by-cons, sum_by-append}
use Rattle.beam_values.specs.Bags.{IsSameBag}
use Rattle.beam_values.proofs.Bags.{sum_by-map, sum_by-flat_map}
use Rattle.beam_values.proofs.Counts.{filter_all}
use Rattle.beam_values.specs.declared.cell.Cell.{Cell}
use Rattle.beam_values.specs.declared.cell.Pane.{Pane}
use Rattle.beam_values.specs.declared.marks.StageMarks.{StageMarks}
use Rattle.beam_values.specs.declared.fault.Cause.{Cause}
use Rattle.beam_values.specs.declared.piece.Piece.{Piece}
use Rattle.bundle_commit.specs.declared.job.Receipt.{Receipt}
use Rattle.book_core.specs.Book.{SeenBook, HeldPane, batch_of, live_batches, held, held_at, held_in, queued, queue_at, last_marks}
use Rattle.book_core.specs.Changes.{with_slot, committed, given_back, tried_batch}
use Rattle.book_core.specs.Facts.{is_held_at, AreHeldOnce}
use Rattle.stateful_core.specs.Cells.{KeyCell}
use Rattle.stateful_core.specs.declared.place.Place.{Place}
use Rattle.book_core.specs.Jobs.{GivenBack, Oldest, Next, next_job, with_key, without_due, first_pane, first_in}
use Rattle.book_core.specs.Steps.{IsWorking, IsFree}
use Rattle.book_core.specs.declared.live.Batch.{Batch}
use Rattle.book_core.specs.declared.live.Live.{Live}
use Rattle.book_core.specs.declared.live.Live.TheVariants as live
use Rattle.book_core.specs.declared.live.WaitingPane.{WaitingPane}
use Rattle.book_core.proofs.Queues.{queue_set_weighs, fired_weigh, held_fired}
use Rattle.book_core.proofs.Slotted.{flat_set_weighs, one_weighs, All-append_left}
use Rattle.book_core.proofs.Taking.{IsAmong, IsOldest, take_cases}

-- what a batch weighs, and all that is held
abbrev pub batch_weight : (HeldPane → ℕ) → Batch → ℕ
batch_weight w batch = sum_by w (held_in batch)

abbrev pub batches_weight : (HeldPane → ℕ) → List Batch → ℕ
batches_weight w batches = sum_by (batch_weight w) batches

pub held_weighs : (w : HeldPane → ℕ) (b : SeenBook)
    → sum_by w (held b) ≡ sum_by w (queued b) + batches_weight w b.returned + batches_weight w (live_batches b)
held_weighs w b =
    omega (
      arith,
      sum_by-append w (queued b) (flat_map held_in b.returned ++ flat_map held_in (live_batches b)),
      sum_by-append w (flat_map held_in b.returned) (flat_map held_in (live_batches b)),
      sum_by-flat_map w held_in b.returned,
      sum_by-flat_map w held_in (live_batches b),
    )

-- a slot is set
pub batch_set_weighs : (w : HeldPane → ℕ) (b : SeenBook) (slot : ℕ) (old new : Option Live) → slice_get b.slots slot ≡ Some old
    → batches_weight w (live_batches (with_slot b slot new)) + batches_weight w (batch_of old) ≡ batches_weight w (live_batches b) + batches_weight w (batch_of new)
batch_set_weighs w b slot old new at = flat_set_weighs batch_of b.slots slot (batch_weight w) old new at

-- ---- the batch of a first pane is the only one with it

zero_each : {X : Type 0} (f : X → ℕ) (xs : List X) → sum_by f xs ≡ 0 → All (λ x. f x ≡ 0) xs
zero_each f [] e = All-nil (λ x. f x ≡ 0)
zero_each f (x ∷ xs) e =
    let sum = sum_by-cons f x xs in
    All-cons (λ y. f y ≡ 0) x xs (omega (arith, e, sum)) (zero_each f xs (omega (arith, e, sum)))

other_first : (place node attempts : ℕ) (panes : List WaitingPane) → 1 ≤ length panes → count_by (is_held_at place) (held_at node panes) ≡ 0
    → not (first_in panes == place) ≡ true
other_first place node attempts [] some none = absurd (omega arith)
other_first place node attempts (p ∷ later) some none =
    let sum = sum_by-cons (λ (held : HeldPane). cond (is_held_at place held) 1 0) (record { node = node; waiting = p }) (held_at node later) in
    let zero_here : cond {A = ℕ} (p.pane == place) 1 0 ≡ 0 = omega (arith, none, sum) in
    grind (arith, nat_tests)

own_first : (place node : ℕ) (panes : List WaitingPane) → 1 ≤ length panes → place ≡ first_in panes → 1 ≤ count_by (is_held_at place) (held_at node panes)
own_first place node [] some e = absurd (omega arith)
own_first place node (p ∷ later) some e =
    let sum = sum_by-cons (λ (held : HeldPane). cond (is_held_at place held) 1 0) (record { node = node; waiting = p }) (held_at node later) in
    let one_here : cond {A = ℕ} (p.pane == place) 1 0 ≡ 1 = grind (arith, nat_tests) in
    omega (arith, sum, one_here)

abbrev pub IsNonempty : Batch → Type 0
IsNonempty batch = 1 ≤ length batch.panes

abbrev is_other : ℕ → Batch → Bool
is_other place batch = not (first_pane batch == place)

others_pass : (place : ℕ) (batches : List Batch) → All IsNonempty batches → batches_weight (λ held. cond (is_held_at place held) 1 0) batches ≡ 0
    → All (λ batch. is_other place batch ≡ true) batches
others_pass place [] some none = All-nil (λ batch. is_other place batch ≡ true)
others_pass place (x ∷ xs) some none =
    let sum = sum_by-cons (batch_weight (λ held. cond (is_held_at place held) 1 0)) x xs in
    All-cons (λ batch. is_other place batch ≡ true) x xs
    (other_first place x.node x.attempts x.panes (All-head IsNonempty x xs some) (omega (arith, none, sum)))
    (others_pass place xs (All-tail IsNonempty x xs some) (omega (arith, none, sum)))

itself_passes_not : (batch : Batch) → is_other (first_pane batch) batch ≡ false
itself_passes_not batch = grind (arith, nat_tests)

filter_one : {X : Type 0} (p : X → Bool) (x : X) (xs : List X) → p x ≡ false → filter p (x ∷ xs) ≡ filter p xs
filter_one p x xs e = ap (λ (t : Bool). cond t (x ∷ filter p xs) (filter p xs)) e

pub All-middle : {X : Type 0} (P : X → Type 0) (front : List X) (x : X) (back : List X) → All P (front ++ x ∷ back) → P x × All P back
All-middle P [] x back h = (All-head P x back h, All-tail P x back h)
All-middle P (y ∷ front) x back h = All-middle P front x back (All-tail P y (front ++ x ∷ back) h)

-- what is left of batches without one, where its first pane is held once
pub without_one : (front : List Batch) (batch : Batch) (back : List Batch) → All IsNonempty (front ++ batch ∷ back)
    → batches_weight (λ held. cond (is_held_at (first_pane batch) held) 1 0) (front ++ batch ∷ back) ≤ 1
    → filter (is_other (first_pane batch)) (front ++ batch ∷ back) ≡ front ++ back
without_one front batch back some once =
    let place = first_pane batch in
    let f = batch_weight (λ held. cond (is_held_at place held) 1 0) in
    let middle = All-middle IsNonempty front batch back some in
    let joined = sum_by-append f front (batch ∷ back) in
    let first = sum_by-cons f batch back in
    let own : 1 ≤ f batch = own_first place batch.node batch.panes middle.0 refl in
    let fronts : filter (is_other place) front ≡ front = filter_all (is_other place) front (others_pass place front (All-append_left IsNonempty front (batch ∷ back) some) (omega (arith, once, joined, first, own))) in
    let backs : filter (is_other place) back ≡ back = filter_all (is_other place) back (others_pass place back middle.1 (omega (arith, once, joined, first, own))) in
    filter-append (is_other place) front (batch ∷ back)
    ∙ ap (λ (l : List Batch). l ++ filter (is_other place) (batch ∷ back)) fronts
    ∙ ap (λ (l : List Batch). front ++ l) (filter_one (is_other place) batch back (itself_passes_not batch) ∙ backs)

split_at : (node : ℕ) (queue : List WaitingPane) (most : ℕ) (w : HeldPane → ℕ)
    → sum_by w (held_at node (take most queue)) + sum_by w (held_at node (drop most queue)) ≡ sum_by w (held_at node queue)
split_at node queue most w =
    let as_held : WaitingPane → HeldPane = λ waiting. record { node = node; waiting = waiting } in
    let v : WaitingPane → ℕ = λ waiting. w (record { node = node; waiting = waiting }) in
    omega (
      arith,
      sum_by-map w as_held (take most queue),
      sum_by-map w as_held (drop most queue),
      sum_by-map w as_held queue,
      sum_by-append v (take most queue) (drop most queue),
      ap (sum_by v) (take-append-drop most queue),
    )

-- ---- a take

module _ (b : SeenBook) (slot : ℕ) (free : IsFree b slot) (held_once : AreHeldOnce b) where
  returned_once : (place : ℕ) → batches_weight (λ held. cond (is_held_at place held) 1 0) b.returned ≤ 1
  returned_once place = let once = held_once.once place in omega (arith, once, held_weighs (λ held. cond (is_held_at place held) 1 0) b)

  returned_some : All IsNonempty b.returned
  returned_some = All-append_left IsNonempty b.returned (live_batches b) held_once.batches

  pub rest_of_returned : (batch : Batch) (among : IsAmong b.returned batch)
      → filter (λ other. not (first_pane other == first_pane batch)) b.returned ≡ among.front ++ among.back
  rest_of_returned batch among =
      ap (filter (is_other (first_pane batch))) among.is
      ∙ without_one among.front batch among.back (subst (All IsNonempty) among.is returned_some)
      (subst (λ (l : List Batch). batches_weight (λ held. cond (is_held_at (first_pane batch) held) 1 0) l ≤ 1) among.is (returned_once (first_pane batch)))

  given_moves : (batch : Batch) → IsAmong b.returned batch → (w : HeldPane → ℕ)
      → sum_by w (held (with_slot (without_due b (GivenBack batch)).rest slot (Some (live.Batch batch)))) ≡ sum_by w (held b)
  given_moves batch among w =
      let new = with_slot (without_due b (GivenBack batch)).rest slot (Some (live.Batch batch)) in
      omega (
        arith,
        held_weighs w new,
        held_weighs w b,
        ap (batches_weight w) (rest_of_returned batch among),
        ap (batches_weight w) among.is,
        sum_by-append (batch_weight w) among.front among.back,
        sum_by-append (batch_weight w) among.front (batch ∷ among.back),
        sum_by-cons (batch_weight w) batch among.back,
        batch_set_weighs w b slot None (Some (live.Batch batch)) free,
        one_weighs (batch_weight w) batch,
      )

  waits_move : (batch : Batch) → IsOldest b batch → (w : HeldPane → ℕ)
      → sum_by w (held (with_slot (without_due b (Oldest batch)).rest slot (Some (live.Batch batch)))) ≡ sum_by w (held b)
  waits_move batch oldest w =
      let new = with_slot (without_due b (Oldest batch)).rest slot (Some (live.Batch batch)) in
      let queue = oldest.first ∷ oldest.later in
      let read : queue_at b batch.node ≡ queue = ap (λ (found : Option (List WaitingPane)). unwrap_or found []) oldest.queue in
      let at : List WaitingPane → ℕ = λ panes. sum_by w (held_at batch.node panes) in
      let zero_on : 0 + batch.node ≡ batch.node = omega arith in
      let none_on : (panes : List WaitingPane) → sum_by w (held_at (0 + batch.node) panes) ≡ at panes = λ panes. ap (λ (k : ℕ). sum_by w (held_at k panes)) zero_on in
      omega (
        arith,
        held_weighs w new,
        held_weighs w b,
        queue_set_weighs w 0 batch.node b.queues queue (drop b.options.bundle (queue_at b batch.node)) oldest.queue,
        none_on queue,
        none_on (drop b.options.bundle (queue_at b batch.node)),
        ap (λ (l : List WaitingPane). at (drop b.options.bundle l)) read,
        ap at oldest.panes,
        split_at batch.node queue b.options.bundle w,
        batch_set_weighs w b slot None (Some (live.Batch batch)) free,
        one_weighs (batch_weight w) batch,
      )

  pending_moves : (piece : Piece) (later : List Piece) → b.pending ≡ piece ∷ later → (w : HeldPane → ℕ)
      → sum_by w (held (with_slot (record b { pending = later }) slot (Some (live.Span piece None)))) ≡ sum_by w (held b)
  pending_moves piece later e w =
      let new = with_slot (record b { pending = later }) slot (Some (live.Span piece None)) in
      omega (arith, held_weighs w new, held_weighs w b, batch_set_weighs w b slot None (Some (live.Span piece None)) free)

  keyed_moves : (place : Place) (cell : KeyCell) (w : HeldPane → ℕ)
      → sum_by w (held (with_slot (with_key b place.at cell).rest slot (Some (with_key b place.at cell).job))) ≡ sum_by w (held b)
  keyed_moves place cell w =
      let new = with_slot (with_key b place.at cell).rest slot (Some (with_key b place.at cell).job) in
      omega (arith, held_weighs w new, held_weighs w b, batch_set_weighs w b slot None (Some (with_key b place.at cell).job) free)

  -- a take leaves one bag
  pub take_moves : (next : Next) → next_job b ≡ Some next → IsSameBag (held (with_slot next.rest slot (Some next.job))) (held b)
  take_moves next is =
      take_cases b (λ (n : Next). IsSameBag (held (with_slot n.rest slot (Some n.job))) (held b))
      (λ batch among. record { weighs = given_moves batch among })
      (λ batch oldest. record { weighs = waits_move batch oldest })
      (λ place cell found. record { weighs = keyed_moves place cell })
      (λ piece later e. record { weighs = pending_moves piece later e })
      next is

-- ---- the other steps

-- a slot is set to what has no other batch
pub set_moves : (b : SeenBook) (slot : ℕ) (old new : Option Live) → slice_get b.slots slot ≡ Some old → batch_of old ≡ [] → batch_of new ≡ []
    → IsSameBag (held (with_slot b slot new)) (held b)
set_moves b slot old new at none_old none_new = record {
  weighs = λ w. omega (
    arith,
    held_weighs w (with_slot b slot new),
    held_weighs w b,
    batch_set_weighs w b slot old new at,
    ap (batches_weight w) none_old,
    ap (batches_weight w) none_new,
  );
}

pub enroll_moves : (b : SeenBook) → IsSameBag (held (record b { slots = b.slots ++ None ∷ [] })) (held b)
enroll_moves b = record {
  weighs = λ w. omega (
    arith,
    held_weighs w (record b { slots = b.slots ++ None ∷ [] }),
    held_weighs w b,
    ap (batches_weight w) (flat_map-append batch_of b.slots (None ∷ [])),
    sum_by-append (batch_weight w) (live_batches b) [],
  );
}

pub back_moves : (b : SeenBook) (slot : ℕ) (job : Live) (at : ℕ) (cause : Cause) → IsWorking b slot job → IsSameBag (held (given_back (with_slot b slot None) job at cause)) (held b)
back_moves b slot (live.Span piece attempted) at cause works = record {
  weighs = λ w. omega (
    arith,
    held_weighs w (given_back (with_slot b slot None) (live.Span piece attempted) at cause),
    held_weighs w b,
    batch_set_weighs w b slot (Some (live.Span piece attempted)) None works,
  );
}
back_moves b slot (live.Key turn) at cause works = record {
  weighs = λ w. omega (
    arith,
    held_weighs w (given_back (with_slot b slot None) (live.Key turn) at cause),
    held_weighs w b,
    batch_set_weighs w b slot (Some (live.Key turn)) None works,
  );
}
back_moves b slot (live.Batch batch) at cause works = record {
  weighs = λ w. omega (
    arith,
    held_weighs w (given_back (with_slot b slot None) (live.Batch batch) at cause),
    held_weighs w b,
    batch_set_weighs w b slot (Some (live.Batch batch)) None works,
    sum_by-append (batch_weight w) b.returned (tried_batch batch ∷ []),
    one_weighs (batch_weight w) (tried_batch batch),
    one_weighs (batch_weight w) batch,
  );
}

-- the panes that a commit fires, as they wait
abbrev pub fired_held : SeenBook → List Pane → List HeldPane
fired_held b fired = map (held_fired (last_marks b)) (enumerate_from (length b.panes) fired)

pub commit_moves : (b : SeenBook) (slot : ℕ) (job : Live) (receipt : Receipt) (cells : List Cell) (fired : List Pane) (marks : List StageMarks)
    → IsWorking b slot job → All (λ pane. pane.node < length b.queues) fired
    → IsSameBag (held (committed b slot job receipt cells fired marks) ++ flat_map held_in (batch_of (Some job))) (held b ++ fired_held b fired)
commit_moves b slot job receipt cells fired marks works at_nodes = record {
  weighs = λ w.
      let new = committed b slot job receipt cells fired marks in
      omega (
        arith,
        held_weighs w new,
        held_weighs w b,
        sum_by-append w (held new) (flat_map held_in (batch_of (Some job))),
        sum_by-append w (held b) (fired_held b fired),
        sum_by-flat_map w held_in (batch_of (Some job)),
        batch_set_weighs w b slot (Some job) None works,
        fired_weigh w (last_marks b) b.queues (enumerate_from (length b.panes) fired) (numbered_all (length b.panes) fired at_nodes),
      );
}
  where
    numbered_all : (n : ℕ) (panes : List Pane) → All (λ pane. pane.node < length b.queues) panes → All (λ (x : ℕ × Pane). x.1.node < length b.queues) (enumerate_from n panes)
    numbered_all n [] h = All-nil (λ (x : ℕ × Pane). x.1.node < length b.queues)
    numbered_all n (p ∷ ps) h =
        All-cons (λ (x : ℕ × Pane). x.1.node < length b.queues) (n, p) (enumerate_from (n + 1) ps)
        (All-head (λ (pane : Pane). pane.node < length b.queues) p ps h)
        (numbered_all (n + 1) ps (All-tail (λ (pane : Pane). pane.node < length b.queues) p ps h))
