-- A take doesn't raise what is left of a run.
use Rattle.std.proofs.Common.{◌≡◌, ◌⊎◌, inl, inr, ℕ, ◌+◌, ◌-◌, ◌*◌, ◌≤◌, List, [], ◌∷◌, ◌++◌, length, map, refl, sym, ap, subst, ◌∙◌, mul-le-mul_left, length-append, arith}
use Rattle.std.specs.Prelude.{Option, Some, None, ◌==◌, take, drop, unwrap_or}
use Rattle.std.specs.List.{count_by, sum_by}
use Rattle.std.proofs.lemmas.Bool.{cases_lt}
use Rattle.std.proofs.lemmas.List.{length-map, length-take, take-append-drop}
use Rattle.std.proofs.lemmas.List.Sums.{sum_by-cons, sum_by-append}
use Rattle.beam_values.specs.Lines.{offsets}
use Rattle.beam_values.proofs.Bags.{bag_count}
use Rattle.beam_values.specs.declared.piece.Piece.{Piece}
use Rattle.book_core.specs.Book.{SeenBook, HeldPane, batch_of, held, held_at, live_pieces, queue_at, queued}
use Rattle.book_core.specs.Changes.{with_slot}
use Rattle.book_core.specs.Facts.{AreHeldOnce, IsWellFormed}
use Rattle.stateful_core.specs.Cells.{KeyCell}
use Rattle.stateful_core.specs.Taking.{with_job}
use Rattle.stateful_core.specs.declared.place.Place.{Place}
use Rattle.book_core.specs.Jobs.{GivenBack, Oldest, Next, next_job, with_key, without_due}
use Rattle.book_core.specs.Left.{IsBelow, attempts_left, left, left_at, left_of_batch, left_of_cell, left_of_piece}
use Rattle.book_core.specs.Steps.{IsFree}
use Rattle.book_core.specs.declared.live.Batch.{Batch}
use Rattle.book_core.specs.declared.live.Live.TheVariants as live
use Rattle.book_core.specs.declared.live.WaitingPane.{WaitingPane}
use Rattle.book_core.proofs.HeldMoves.{rest_of_returned, take_moves}
use Rattle.book_core.proofs.HoldBags.{piece_set_weighs}
use Rattle.book_core.proofs.KeyChanges.{change_weighs}
use Rattle.book_core.proofs.Lowered.{at_node, attempts_weigh, cell_left, left_at_weighs, lower_last, taken_left}
use Rattle.book_core.proofs.Queues.{queue_set_weighs}
use Rattle.book_core.proofs.Slotted.{flat_set_weighs, one_weighs, sum_ones}
use Rattle.book_core.proofs.Taking.{IsAmong, IsNextCell, IsOldest, take_cases}

-- what a take leaves
record IsNoMore (b new : SeenBook) : Type 0 where
  plan : new.plan ≡ b.plan
  nodes : (node : ℕ) → left_at new node ≡ left_at b node
  attempts : attempts_left new ≤ attempts_left b

no_higher : (b new : SeenBook) → IsNoMore b new → IsBelow (left new) (left b) ⊎ (left new ≡ left b)
no_higher b new h = elim (cases_lt (attempts_left new) (attempts_left b)) [
  | inl less ↦ inl (lower_last b new h.plan h.nodes less)
  | inr most ↦
      let most_is = h.attempts in
      let same : attempts_left new ≡ attempts_left b = omega (arith, most, most_is) in
      inr (
      ap (λ p. map (left_at new) (offsets 0 (length p.nodes)) ++ attempts_left new ∷ []) h.plan
      ∙ (λ i. map (λ node. h.nodes node i) (offsets 0 (length b.plan.nodes)) ++ same i ∷ [])
      )
]

-- at least one pane goes into a batch
one_batch : (m q k : ℕ) → 1 ≤ k → m * q + m ≤ m * (q + k)
one_batch m q k some =
    let more : m * (q + 1) ≤ m * (q + k) = mul-le-mul_left {m = q + 1} {n = q + k} m (omega arith) in
    let whole : m * (q + 1) ≡ m * q + m = grind arith in
    omega (arith, more, whole)

module _ (b : SeenBook) (slot : ℕ) (formed : IsWellFormed b) (once : AreHeldOnce b) (free : IsFree b slot) where
  abbrev most : ℕ
  most = b.options.attempts

  nodes_by : (new : SeenBook) → ((node : ℕ) → sum_by (at_node node) new.pending + sum_by (at_node node) (live_pieces new) ≡ sum_by (at_node node) b.pending + sum_by (at_node node) (live_pieces b))
      → ((node : ℕ) → count_by (λ (pane : HeldPane). pane.node == node) (held new) ≡ count_by (λ (pane : HeldPane). pane.node == node) (held b))
      → ((node : ℕ) → sum_by (cell_left node) new.keys ≡ sum_by (cell_left node) b.keys) → (node : ℕ) → left_at new node ≡ left_at b node
  nodes_by new pieces panes keys node = omega (arith, left_at_weighs new node, left_at_weighs b node, pieces node, panes node, keys node)

  given_left : (batch : Batch) → IsAmong b.returned batch → attempts_left (with_slot (without_due b (GivenBack batch)).rest slot (Some (live.Batch batch))) ≤ attempts_left b
  given_left batch among =
      let new = with_slot (without_due b (GivenBack batch)).rest slot (Some (live.Batch batch)) in
      omega (
        arith,
        attempts_weigh b,
        attempts_weigh new,
        piece_set_weighs (left_of_piece most) b slot None (Some (live.Batch batch)) free,
        flat_set_weighs batch_of b.slots slot (left_of_batch most) None (Some (live.Batch batch)) free,
        one_weighs (left_of_batch most) batch,
        ap (sum_by (left_of_batch most)) (rest_of_returned b slot free once batch among),
        ap (sum_by (left_of_batch most)) among.is,
        sum_by-append (left_of_batch most) among.front among.back,
        sum_by-append (left_of_batch most) among.front (batch ∷ among.back),
        sum_by-cons (left_of_batch most) batch among.back,
      )

  waits_left : (batch : Batch) → IsOldest b batch → attempts_left (with_slot (without_due b (Oldest batch)).rest slot (Some (live.Batch batch))) ≤ attempts_left b
  waits_left batch oldest =
      let new = with_slot (without_due b (Oldest batch)).rest slot (Some (live.Batch batch)) in
      let queue = oldest.first ∷ oldest.later in
      let bundle = b.options.bundle in
      let read : queue_at b batch.node ≡ queue = ap (λ (found : Option (List WaitingPane)). unwrap_or found []) oldest.queue in
      let queues = queue_set_weighs (λ (h : HeldPane). 1) 0 batch.node b.queues queue (drop bundle (queue_at b batch.node)) oldest.queue in
      let some = formed.allowed.bundle.0 in
      let there : WaitingPane → HeldPane = λ waiting. record { node = 0 + batch.node; waiting = waiting } in
      let front : length (take bundle queue) ≡ length queue - length (drop bundle queue) = omega (arith, ap length (take-append-drop bundle queue), length-append (take bundle queue) (drop bundle queue)) in
      let taken : 1 ≤ length (take bundle queue) = omega (arith, length-take bundle queue, some) in
      let many : length (queued b) ≡ length (queued new) + length (take bundle queue) =
      omega (
        arith,
        queues,
        front,
        sum_ones (queued b),
        sum_ones (queued new),
        sum_ones (held_at (0 + batch.node) queue),
        sum_ones (held_at (0 + batch.node) (drop bundle (queue_at b batch.node))),
        length-map queue there,
        length-map (drop bundle (queue_at b batch.node)) there,
        ap (λ (l : List WaitingPane). length (drop bundle l)) read,
        ap length (take-append-drop bundle queue),
        length-append (take bundle queue) (drop bundle queue),
      ) in
      let products : most * length (queued new) + most ≤ most * length (queued b) =
      subst (λ (n : ℕ). most * length (queued new) + most ≤ most * n) (sym many) (one_batch most (length (queued new)) (length (take bundle queue)) taken) in
      omega (
        arith,
        products,
        attempts_weigh b,
        attempts_weigh new,
        piece_set_weighs (left_of_piece most) b slot None (Some (live.Batch batch)) free,
        flat_set_weighs batch_of b.slots slot (left_of_batch most) None (Some (live.Batch batch)) free,
        one_weighs (left_of_batch most) batch,
        oldest.attempts,
      )

  keyed_left : (place : Place) (cell : KeyCell) → IsNextCell b place cell → attempts_left (with_slot (with_key b place.at cell).rest slot (Some (with_key b place.at cell).job)) ≤ attempts_left b
  keyed_left place cell found =
      let job = (with_key b place.at cell).job in
      omega (
        arith,
        attempts_weigh b,
        attempts_weigh (with_slot (with_key b place.at cell).rest slot (Some job)),
        piece_set_weighs (left_of_piece most) b slot None (Some job) free,
        flat_set_weighs batch_of b.slots slot (left_of_batch most) None (Some job) free,
        change_weighs (left_of_cell most) (with_job b.options.bundle) (λ c. refl) place.at b.keys,
      )

  pending_left : (piece : Piece) (later : List Piece) → b.pending ≡ piece ∷ later → attempts_left (with_slot (record b { pending = later }) slot (Some (live.Span piece None))) ≤ attempts_left b
  pending_left piece later e =
      let new = with_slot (record b { pending = later }) slot (Some (live.Span piece None)) in
      omega (
        arith,
        attempts_weigh b,
        attempts_weigh new,
        piece_set_weighs (left_of_piece most) b slot None (Some (live.Span piece None)) free,
        flat_set_weighs batch_of b.slots slot (left_of_batch most) None (Some (live.Span piece None)) free,
        one_weighs (left_of_piece most) piece,
        ap (sum_by (left_of_piece most)) e,
        sum_by-cons (left_of_piece most) piece later,
      )

  -- pieces at each node
  taken_pieces : (next : Next) → next_job b ≡ Some next → (node : ℕ)
      → sum_by (at_node node) next.rest.pending + sum_by (at_node node) (live_pieces (with_slot next.rest slot (Some next.job))) ≡ sum_by (at_node node) b.pending + sum_by (at_node node) (live_pieces b)
  taken_pieces next is node =
      take_cases b (λ (n : Next). sum_by (at_node node) n.rest.pending + sum_by (at_node node) (live_pieces (with_slot n.rest slot (Some n.job))) ≡ sum_by (at_node node) b.pending + sum_by (at_node node) (live_pieces b))
      (λ batch among. omega (arith, piece_set_weighs (at_node node) b slot None (Some (live.Batch batch)) free))
      (λ batch oldest. omega (arith, piece_set_weighs (at_node node) b slot None (Some (live.Batch batch)) free))
      (λ place cell found. omega (arith, piece_set_weighs (at_node node) b slot None (Some (with_key b place.at cell).job) free))
      (λ piece later e. omega (
        arith,
        piece_set_weighs (at_node node) b slot None (Some (live.Span piece None)) free,
        one_weighs (at_node node) piece,
        ap (sum_by (at_node node)) e,
        sum_by-cons (at_node node) piece later,
      ))
      next is

  -- key cells at each node
  taken_cells : (next : Next) → next_job b ≡ Some next → (node : ℕ) → sum_by (cell_left node) next.rest.keys ≡ sum_by (cell_left node) b.keys
  taken_cells next is node =
      take_cases b (λ (n : Next). sum_by (cell_left node) n.rest.keys ≡ sum_by (cell_left node) b.keys) (λ batch among. refl) (λ batch oldest. refl)
      (λ place cell found. change_weighs (cell_left node) (with_job b.options.bundle) (taken_left node b.options.bundle) place.at b.keys) (λ piece later e. refl) next is

  pub take_no_higher : (next : Next) → next_job b ≡ Some next → IsBelow (left (with_slot next.rest slot (Some next.job))) (left b) ⊎ (left (with_slot next.rest slot (Some next.job)) ≡ left b)
  take_no_higher next is =
      let new = with_slot next.rest slot (Some next.job) in
      no_higher b new (record {
        plan = take_cases b (λ (n : Next). n.rest.plan ≡ b.plan) (λ batch among. refl) (λ batch oldest. refl) (λ place cell found. refl) (λ piece later e. refl) next is;
        nodes = nodes_by new (taken_pieces next is)
            (λ node. bag_count (λ (pane : HeldPane). pane.node == node) (held new) (held b) (take_moves b slot free once next is))
            (taken_cells next is);
        attempts = take_cases b (λ (n : Next). attempts_left (with_slot n.rest slot (Some n.job)) ≤ attempts_left b) given_left waits_left keyed_left pending_left next is;
      })
