-- A fail after which the job is tried again lowers what is left of a run.
use Rattle.std.proofs.Common.{◌≡◌, inl, inr, ℕ, ◌+◌, ◌-◌, ◌*◌, ◌<◌, Bool, true, false, cond, List, [], ◌∷◌, ◌++◌, length, map, refl, sym, ap, subst, ◌∙◌, arith}
use Rattle.std.specs.Prelude.{Option, Some, None, ◌==◌, max}
use Rattle.std.specs.List.{count_by, filter, sum_by}
use Rattle.std.proofs.lemmas.List.Elements.{All-head}
use Rattle.std.proofs.lemmas.List.Sums.{length-filter, sum_by-append}
use Rattle.beam_values.specs.Lines.{offsets}
use Rattle.beam_values.proofs.Bags.{bag_count, sum_by-filter}
use Rattle.beam_values.specs.declared.fault.Cause.{Cause}
use Rattle.beam_values.specs.declared.fault.Cause.TheVariants.{Call, Read}
use Rattle.beam_values.specs.declared.fault.FaultNote.{FaultNote}
use Rattle.beam_values.specs.declared.piece.Piece.{Piece}
use Rattle.stateful_core.specs.Cells.{KeyCell}
use Rattle.stateful_core.specs.Lasting.{left_of}
use Rattle.stateful_core.specs.Taking.{is_some, tried, with_job}
use Rattle.book_core.specs.Book.{SeenBook, HeldPane, piece_of, batch_of, live_pieces, live_batches, held, queued}
use Rattle.book_core.specs.Changes.{with_slot, tried_again, given_back, counted, stopped_where, tried_piece, tried_batch, ends_run, note_of}
use Rattle.book_core.specs.Facts.{AreAttemptsCounted, AreTurnsKept}
use Rattle.book_core.specs.Left.{IsBelow, attempts_left, left, left_at, left_in, left_of_batch, left_of_cell, left_of_piece, left_of_size}
use Rattle.book_core.specs.Steps.{IsFresh, IsWorking}
use Rattle.book_core.specs.declared.live.Batch.{Batch}
use Rattle.book_core.specs.declared.live.Live.{Live}
use Rattle.book_core.specs.declared.live.Live.TheVariants as live
use Rattle.book_core.proofs.EachKeyCell.{changed_weighs}
use Rattle.book_core.proofs.HeldMoves.{back_moves}
use Rattle.book_core.proofs.HoldBags.{piece_set_weighs, with_piece_weight}
use Rattle.book_core.proofs.KeyChanges.{change_weighs}
use Rattle.book_core.proofs.Slots.{All-slice_get}
use Rattle.book_core.proofs.Slotted.{All-flat_at, flat_set_weighs, one_weighs}
use Rattle.book_core.proofs.Turns.{turn_at}

-- ---- one number lower at the end

pub below_last : (xs : List ℕ) (m n : ℕ) → m < n → IsBelow (xs ++ m ∷ []) (xs ++ n ∷ [])
below_last [] m n less = inl less
below_last (x ∷ xs) m n less = inr (refl, below_last xs m n less)

pub lower_last : (b new : SeenBook) → new.plan ≡ b.plan → ((node : ℕ) → left_at new node ≡ left_at b node) → attempts_left new < attempts_left b → IsBelow (left new) (left b)
lower_last b new plan same less =
    subst (λ (xs : List ℕ). IsBelow (xs ++ attempts_left new ∷ []) (left b)) (sym nodes)
    (below_last (map (left_at b) (offsets 0 (length b.plan.nodes))) (attempts_left new) (attempts_left b) less)
  where
    nodes : map (left_at new) (offsets 0 (length new.plan.nodes)) ≡ map (left_at b) (offsets 0 (length b.plan.nodes))
    nodes =
        ap (λ p. map (left_at new) (offsets 0 (length p.nodes))) plan
        ∙ (λ i. map (λ node. same node i) (offsets 0 (length b.plan.nodes)))

-- ---- what is left weighs

unfoldable pub at_node : ℕ → Piece → ℕ
at_node node piece = cond (piece.node == node) (left_in piece) 0

unfoldable pub cell_left : ℕ → KeyCell → ℕ
cell_left node cell = cond (cell.log.node == node) (left_of cell) 0

-- what is left in a size that isn't spent
pub fresh_size : (spent : Option FaultNote) (size : ℕ) → spent ≡ None → left_of_size spent size ≡ max 1 (3 * size - 1)
fresh_size None size e = refl
fresh_size (Some note) size e = absurd (cc)

-- a job that is taken or given back leaves what is left of its cell
pub taken_left : (node bundle : ℕ) (cell : KeyCell) → cell_left node (with_job bundle cell) ≡ cell_left node cell
unfolding cell_left
taken_left node bundle cell = refl

tried_left : (node : ℕ) (cell : KeyCell) → cell_left node (tried cell) ≡ cell_left node cell
unfolding cell_left
tried_left node cell = refl

cells_weigh : (node : ℕ) (cells : List KeyCell) → sum_by left_of (filter (λ (cell : KeyCell). cell.log.node == node) cells) ≡ sum_by (cell_left node) cells
unfolding cell_left
cells_weigh node cells = sum_by-filter left_of (λ (cell : KeyCell). cell.log.node == node) cells

pub left_at_weighs : (b : SeenBook) (node : ℕ)
    → left_at b node ≡ sum_by (at_node node) b.pending + sum_by (at_node node) (live_pieces b) + count_by (λ (pane : HeldPane). pane.node == node) (held b) + sum_by (cell_left node) b.keys
unfolding at_node
left_at_weighs b node =
    omega (
      arith,
      sum_by-filter left_in (λ (piece : Piece). piece.node == node) (b.pending ++ live_pieces b),
      sum_by-append (at_node node) b.pending (live_pieces b),
      length-filter (λ (pane : HeldPane). pane.node == node) (held b),
      cells_weigh node b.keys,
    )

pub attempts_weigh : (b : SeenBook)
    → attempts_left b
    ≡ sum_by (left_of_piece b.options.attempts) b.pending + sum_by (left_of_piece b.options.attempts) (live_pieces b)
    + (sum_by (left_of_batch b.options.attempts) b.returned + sum_by (left_of_batch b.options.attempts) (live_batches b)) + b.options.attempts * length (queued b)
    + sum_by (left_of_cell b.options.attempts) b.keys
attempts_weigh b =
    omega (
      arith,
      sum_by-append (left_of_piece b.options.attempts) b.pending (live_pieces b),
      sum_by-append (left_of_batch b.options.attempts) b.returned (live_batches b),
    )

-- ---- a job is given back

module _ (b : SeenBook) (slot at : ℕ) (cause : Cause) (counts : AreAttemptsCounted b) (turns : AreTurnsKept b) where
  abbrev back : Live → SeenBook
  back job = given_back (with_slot b slot None) job at cause

  abbrev most : ℕ
  most = b.options.attempts

  back_nodes : (job : Live) → IsWorking b slot job → (node : ℕ) → left_at (back job) node ≡ left_at b node
  unfolding at_node
  back_nodes (live.Span piece attempted) works node =
      omega (
        arith,
        left_at_weighs b node,
        left_at_weighs (back (live.Span piece attempted)) node,
        bag_count (λ (pane : HeldPane). pane.node == node) (held (back (live.Span piece attempted))) (held b) (back_moves b slot (live.Span piece attempted) at cause works),
        piece_set_weighs (at_node node) b slot (Some (live.Span piece attempted)) None works,
        with_piece_weight (at_node node) (tried_piece piece) b.pending,
        one_weighs (at_node node) piece,
      )
  back_nodes (live.Batch batch) works node =
      omega (
        arith,
        left_at_weighs b node,
        left_at_weighs (back (live.Batch batch)) node,
        bag_count (λ (pane : HeldPane). pane.node == node) (held (back (live.Batch batch))) (held b) (back_moves b slot (live.Batch batch) at cause works),
        piece_set_weighs (at_node node) b slot (Some (live.Batch batch)) None works,
      )
  back_nodes (live.Key turn) works node =
      omega (
        arith,
        left_at_weighs b node,
        left_at_weighs (back (live.Key turn)) node,
        bag_count (λ (pane : HeldPane). pane.node == node) (held (back (live.Key turn))) (held b) (back_moves b slot (live.Key turn) at cause works),
        piece_set_weighs (at_node node) b slot (Some (live.Key turn)) None works,
        change_weighs (cell_left node) tried (tried_left node) turn.cell b.keys,
      )

  one_less : (attempts : ℕ) → attempts < most → most - (attempts + 1) + 1 ≡ most - attempts
  one_less attempts less = omega arith

  back_lower : (job : Live) → IsWorking b slot job → IsFresh job → attempts_left (back job) + 1 ≡ attempts_left b
  back_lower (live.Span piece attempted) works fresh =
      let below = All-head (λ (p : Piece). p.spent ≡ None → p.attempts < most) piece []
      (All-flat_at piece_of b.slots slot (λ (p : Piece). p.spent ≡ None → p.attempts < most) (Some (live.Span piece attempted)) works counts.worked_pieces) fresh in
      omega (
        arith,
        attempts_weigh b,
        attempts_weigh (back (live.Span piece attempted)),
        piece_set_weighs (left_of_piece most) b slot (Some (live.Span piece attempted)) None works,
        with_piece_weight (left_of_piece most) (tried_piece piece) b.pending,
        one_weighs (left_of_piece most) piece,
        flat_set_weighs batch_of b.slots slot (left_of_batch most) (Some (live.Span piece attempted)) None works,
        one_less piece.attempts below,
      )
  back_lower (live.Batch batch) works fresh =
      let below = All-head (λ (x : Batch). x.attempts < most) batch []
      (All-flat_at batch_of b.slots slot (λ (x : Batch). x.attempts < most) (Some (live.Batch batch)) works counts.worked_batches) in
      omega (
        arith,
        attempts_weigh b,
        attempts_weigh (back (live.Batch batch)),
        piece_set_weighs (left_of_piece most) b slot (Some (live.Batch batch)) None works,
        flat_set_weighs batch_of b.slots slot (left_of_batch most) (Some (live.Batch batch)) None works,
        sum_by-append (left_of_batch most) b.returned (tried_batch batch ∷ []),
        one_weighs (left_of_batch most) (tried_batch batch),
        one_weighs (left_of_batch most) batch,
        one_less batch.attempts below,
      )
  back_lower (live.Key turn) works fresh =
      let own = turn_at b slot turn turns works in
      let below = All-slice_get (λ (c : KeyCell). is_some c.live ≡ true → c.attempts < most) b.keys turn.cell own.cell own.is_at counts.worked_keys (ap is_some own.works) in
      omega (
        arith,
        attempts_weigh b,
        attempts_weigh (back (live.Key turn)),
        piece_set_weighs (left_of_piece most) b slot (Some (live.Key turn)) None works,
        flat_set_weighs batch_of b.slots slot (left_of_batch most) (Some (live.Key turn)) None works,
        changed_weighs (left_of_cell most) tried turn.cell b.keys own.cell own.is_at,
        one_less own.cell.attempts below,
      )

-- ---- counts and stops are no matter

record IsAsLeft (x y : SeenBook) : Type 0 where
  plan : y.plan ≡ x.plan
  nodes : (node : ℕ) → left_at y node ≡ left_at x node
  attempts : attempts_left y ≡ attempts_left x

counted_left : (x : SeenBook) (cause : Cause) → IsAsLeft x (counted x cause)
counted_left x Call = record { plan = refl; nodes = λ node. refl; attempts = refl }
counted_left x Read = record { plan = refl; nodes = λ node. refl; attempts = refl }

stop_left : (spent : Bool) (x : SeenBook) (note : FaultNote) → IsAsLeft x (stopped_where spent x note)
stop_left true x note = record { plan = refl; nodes = λ node. refl; attempts = refl }
stop_left false x note = record { plan = refl; nodes = λ node. refl; attempts = refl }

back_plan : (b : SeenBook) (slot : ℕ) (job : Live) (at : ℕ) (cause : Cause) → (given_back (with_slot b slot None) job at cause).plan ≡ b.plan
back_plan b slot (live.Span piece attempted) at cause = refl
back_plan b slot (live.Batch batch) at cause = refl
back_plan b slot (live.Key turn) at cause = refl

pub tried_lowers : (b : SeenBook) (slot at : ℕ) (job : Live) (cause : Cause) → AreAttemptsCounted b → AreTurnsKept b → IsWorking b slot job → IsFresh job
    → IsBelow (left (tried_again b slot job at cause)) (left b)
tried_lowers b slot at job cause counts turns works fresh =
    let back = given_back (with_slot b slot None) job at cause in
    let first = counted_left back cause in
    let then = stop_left (ends_run b job cause) (counted back cause) (note_of job at cause) in
    lower_last b (tried_again b slot job at cause) (then.plan ∙ first.plan ∙ back_plan b slot job at cause)
    (λ node. then.nodes node ∙ first.nodes node ∙ back_nodes b slot at cause counts turns job works node)
    (omega (arith, then.attempts, first.attempts, back_lower b slot at cause counts turns job works fresh))
