-- How often jobs failed, over the lists of a book: what is taken, and what is put back.
use Rattle.std.proofs.Common.{◌≡◌, ℕ, ◌+◌, ◌<◌, ◌≤◌, true, not, List, [], ◌∷◌, ◌++◌, subst, arith}
use Rattle.std.specs.Prelude.{Option, Some, None, ◌==◌, slice_set}
use Rattle.std.specs.List.{All, filter, flat_map}
use Rattle.std.proofs.lemmas.List.Elements.{All-nil, All-cons, All-head, All-tail, All-append, All-filter, All-weaker}
use Rattle.beam_values.specs.declared.piece.Piece.{Piece}
use Rattle.beam_ports.specs.Counts.{greatest_count}
use Rattle.split_core.specs.Order.{with_piece}
use Rattle.split_core.proofs.Ordered.{All-with_piece}
use Rattle.stateful_core.specs.Cells.{KeyCell}
use Rattle.stateful_core.specs.Taking.{is_some, with_job}
use Rattle.stateful_core.specs.declared.place.Place.{Place}
use Rattle.book_core.specs.Book.{SeenBook, piece_of, batch_of}
use Rattle.book_core.specs.Changes.{with_slot, with_residual}
use Rattle.book_core.specs.Facts.{IsStopNoted, IsWellFormed}
use Rattle.book_core.specs.Jobs.{GivenBack, Oldest, without_due, first_pane, key_turn, with_key}
use Rattle.book_core.specs.Steps.{IsRunning}
use Rattle.book_core.specs.declared.live.Batch.{Batch}
use Rattle.book_core.specs.declared.live.Live.{Live}
use Rattle.book_core.specs.declared.live.Live.TheVariants as live
use Rattle.book_core.proofs.EachKeyCell.{change_each}
use Rattle.book_core.proofs.HeldMoves.{All-middle}
use Rattle.book_core.proofs.Slotted.{All-flat_set}
use Rattle.book_core.proofs.Taking.{IsAmong, IsNextCell, IsOldest}

-- ---- the counts, over the lists themselves

abbrev pub MayBeWorked : ℕ → ℕ → ℕ → Type 0
MayBeWorked limit total attempts = (attempts < limit) × (attempts ≤ total)

-- a piece that isn't spent has failed less often than it may
abbrev pub IsFreshBelow : ℕ → Piece → Type 0
IsFreshBelow limit piece = piece.spent ≡ None → piece.attempts < limit

pub record AreCounted (limit total : ℕ) (running : Type 0) (pending : List Piece) (returned : List Batch) (slots : List (Option Live)) : Type 0 where
  pub worked_pieces : All (IsFreshBelow limit) (flat_map piece_of slots)
  pub worked_batches : All (λ batch. MayBeWorked limit total batch.attempts) (flat_map batch_of slots)
  pub pending_below : running → All (IsFreshBelow limit) pending
  pub returned_below : running → All (λ batch. batch.attempts < limit) returned
  pub pending_most : All (λ piece. piece.attempts ≤ limit) pending
  pub returned_most : All (λ batch. (batch.attempts ≤ limit) × (batch.attempts ≤ total)) returned

abbrev pub IsCellWorked : ℕ → KeyCell → Type 0
IsCellWorked limit cell = is_some cell.live ≡ true → cell.attempts < limit

abbrev pub IsCellBelow : ℕ → KeyCell → Type 0
IsCellBelow limit cell = cell.attempts < limit

abbrev pub IsCellMost : ℕ → KeyCell → Type 0
IsCellMost limit cell = cell.attempts ≤ limit

abbrev pub IsCellFailed : ℕ → KeyCell → Type 0
IsCellFailed total cell = cell.attempts ≤ total

pub record AreCellsCounted (limit total : ℕ) (running : Type 0) (keys : List KeyCell) : Type 0 where
  pub worked : All (IsCellWorked limit) keys
  pub below : running → All (IsCellBelow limit) keys
  pub most : All (IsCellMost limit) keys
  pub failed : All (IsCellFailed total) keys

-- more failed, and the run may have stopped
pub cells_onward : (limit total : ℕ) (running : Type 0) (keys : List KeyCell) → AreCellsCounted limit total running keys
    → (more : ℕ) (runs : Type 0) → total ≤ more → (runs → running) → AreCellsCounted limit more runs keys
cells_onward limit total running keys h more runs rise still = record {
  worked = h.worked;
  below = λ r. h.below (still r);
  most = h.most;
  failed = All-weaker (IsCellFailed total) (IsCellFailed more) (λ cell k. omega (arith, k, rise)) keys h.failed;
}

abbrev pub CountsOf : SeenBook → Type 0
CountsOf b = AreCounted b.options.attempts (b.calls + b.reads) (IsRunning b) b.pending b.returned b.slots

pub record IsCounted (b : SeenBook) : Type 0 where
  pub counts : CountsOf b
  pub cells : AreCellsCounted b.options.attempts (b.calls + b.reads) (IsRunning b) b.keys
  pub stop : IsStopNoted b b.stopped
  pub calls : b.calls ≤ greatest_count
  pub reads : b.reads ≤ greatest_count

module _ (limit total : ℕ) (running : Type 0) where
  abbrev pub IsPiece : Piece → Type 0
  IsPiece piece = IsFreshBelow limit piece

  abbrev pub IsBatch : Batch → Type 0
  IsBatch batch = MayBeWorked limit total batch.attempts

  abbrev pub IsPieceBelow : Piece → Type 0
  IsPieceBelow piece = IsFreshBelow limit piece

  abbrev pub IsBatchBelow : Batch → Type 0
  IsBatchBelow batch = batch.attempts < limit

  abbrev pub IsPieceMost : Piece → Type 0
  IsPieceMost piece = piece.attempts ≤ limit

  abbrev pub IsBatchMost : Batch → Type 0
  IsBatchMost batch = (batch.attempts ≤ limit) × (batch.attempts ≤ total)

  module _ (pending : List Piece) (returned : List Batch) (slots : List (Option Live)) (h : AreCounted limit total running pending returned slots) where
    -- a slot is set
    pub set_counted : (slot : ℕ) (new : Option Live) → All IsPiece (piece_of new) → All IsBatch (batch_of new) → AreCounted limit total running pending returned (slice_set slots slot new)
    set_counted slot new piece batch = record {
      worked_pieces = All-flat_set piece_of slots slot IsPiece new piece h.worked_pieces;
      worked_batches = All-flat_set batch_of slots slot IsBatch new batch h.worked_batches;
      pending_below = h.pending_below;
      returned_below = h.returned_below;
      pending_most = h.pending_most;
      returned_most = h.returned_most;
    }

    -- a piece is pending that was never tried
    pub fresh_counted : (piece : Piece) → piece.attempts ≡ 0 → 1 ≤ limit → AreCounted limit total running (with_piece piece pending) returned slots
    fresh_counted piece zero_tried some = record {
      worked_pieces = h.worked_pieces;
      worked_batches = h.worked_batches;
      pending_below = λ runs. All-with_piece IsPieceBelow piece pending (λ fresh. omega (arith, zero_tried, some)) (h.pending_below runs);
      returned_below = h.returned_below;
      pending_most = All-with_piece IsPieceMost piece pending (omega arith) h.pending_most;
      returned_most = h.returned_most;
    }

    pub residual_counted : (left : Option Piece) → All (λ piece. piece.attempts ≡ 0) (elim left [ None ↦ [] | Some piece ↦ piece ∷ [] ]) → 1 ≤ limit
        → AreCounted limit total running (with_residual left pending) returned slots
    residual_counted None zero_tried some = h
    residual_counted (Some piece) zero_tried some = fresh_counted piece (All-head (λ (p : Piece). p.attempts ≡ 0) piece [] zero_tried) some

    -- more failed, and the run may have stopped
    pub more_counted : (more : ℕ) (runs : Type 0) → total ≤ more → (runs → running) → AreCounted limit more runs pending returned slots
    more_counted more runs rise still = record {
      worked_pieces = h.worked_pieces;
      worked_batches = All-weaker IsBatch (λ batch. MayBeWorked limit more batch.attempts) (λ batch k. (k.0, omega (arith, k.1))) (flat_map batch_of slots) h.worked_batches;
      pending_below = λ r. h.pending_below (still r);
      returned_below = λ r. h.returned_below (still r);
      pending_most = h.pending_most;
      returned_most = All-weaker IsBatchMost (λ batch. (batch.attempts ≤ limit) × (batch.attempts ≤ more)) (λ batch k. (k.0, omega (arith, k.1))) returned h.returned_most;
    }

    -- a job is given back
    pub piece_back : (piece : Piece) → (running → piece.attempts < limit) → piece.attempts ≤ limit → AreCounted limit total running (with_piece piece pending) returned slots
    piece_back piece below most = record {
      worked_pieces = h.worked_pieces;
      worked_batches = h.worked_batches;
      pending_below = λ runs. All-with_piece IsPieceBelow piece pending (λ fresh. below runs) (h.pending_below runs);
      returned_below = h.returned_below;
      pending_most = All-with_piece IsPieceMost piece pending most h.pending_most;
      returned_most = h.returned_most;
    }

    pub batch_back : (batch : Batch) → (running → batch.attempts < limit) → (batch.attempts ≤ limit) × (batch.attempts ≤ total) → AreCounted limit total running pending (returned ++ batch ∷ []) slots
    batch_back batch below most = record {
      worked_pieces = h.worked_pieces;
      worked_batches = h.worked_batches;
      pending_below = h.pending_below;
      returned_below = λ runs. All-append IsBatchBelow returned (batch ∷ []) (h.returned_below runs) (All-cons IsBatchBelow batch [] (below runs) (All-nil IsBatchBelow));
      pending_most = h.pending_most;
      returned_most = All-append IsBatchMost returned (batch ∷ []) h.returned_most (All-cons IsBatchMost batch [] most (All-nil IsBatchMost));
    }

-- ---- a take

module _ (b : SeenBook) (slot : ℕ) (formed : IsWellFormed b) (h : IsCounted b) (running : IsRunning b) where
  abbrev pub limit : ℕ
  limit = b.options.attempts

  abbrev pub total : ℕ
  total = b.calls + b.reads

  abbrev pub some_limit : 1 ≤ limit
  some_limit = formed.allowed.attempts.0

  pub given_counted : (batch : Batch) → IsAmong b.returned batch → IsCounted (with_slot (without_due b (GivenBack batch)).rest slot (Some (live.Batch batch)))
  given_counted batch among =
      let rest = filter (λ (other : Batch). not (first_pane other == first_pane batch)) b.returned in
      let k = h.counts in
      let below = (All-middle (IsBatchBelow limit total (IsRunning b)) among.front batch among.back (subst (All (IsBatchBelow limit total (IsRunning b))) among.is (k.returned_below running))).0 in
      let most = (All-middle (IsBatchMost limit total (IsRunning b)) among.front batch among.back (subst (All (IsBatchMost limit total (IsRunning b))) among.is k.returned_most)).0 in
      record {
        counts = set_counted limit total (IsRunning b) b.pending rest b.slots (record {
          worked_pieces = k.worked_pieces;
          worked_batches = k.worked_batches;
          pending_below = k.pending_below;
          returned_below = λ runs. All-filter (λ (other : Batch). not (first_pane other == first_pane batch)) (IsBatchBelow limit total (IsRunning b)) b.returned (k.returned_below runs);
          pending_most = k.pending_most;
          returned_most = All-filter (λ (other : Batch). not (first_pane other == first_pane batch)) (IsBatchMost limit total (IsRunning b)) b.returned k.returned_most;
        }) slot (Some (live.Batch batch)) (All-nil (IsPiece limit total (IsRunning b)))
            (All-cons (IsBatch limit total (IsRunning b)) batch [] (below, most.1) (All-nil (IsBatch limit total (IsRunning b))));
        cells = h.cells;
        stop = h.stop;
        calls = h.calls;
        reads = h.reads;
      }

  pub waits_counted : (batch : Batch) → IsOldest b batch → IsCounted (with_slot (without_due b (Oldest batch)).rest slot (Some (live.Batch batch)))
  waits_counted batch oldest =
      let none = oldest.attempts in
      let some = some_limit in
      record {
        counts = set_counted limit total (IsRunning b) b.pending b.returned b.slots h.counts slot (Some (live.Batch batch)) (All-nil (IsPiece limit total (IsRunning b)))
            (All-cons (IsBatch limit total (IsRunning b)) batch [] (omega (arith, none, some), omega (arith, none)) (All-nil (IsBatch limit total (IsRunning b))));
        cells = h.cells;
        stop = h.stop;
        calls = h.calls;
        reads = h.reads;
      }

  pub keyed_counted : (place : Place) (cell : KeyCell) → IsNextCell b place cell → IsCounted (with_slot (with_key b place.at cell).rest slot (Some (with_key b place.at cell).job))
  keyed_counted place cell found =
      let below = change_each (IsCellBelow limit) (with_job b.options.bundle) place.at b.keys (λ c e k. k) (h.cells.below running) in
      record {
        counts = set_counted limit total (IsRunning b) b.pending b.returned b.slots h.counts slot (Some (live.Key (key_turn b place.at cell))) (All-nil (IsPiece limit total (IsRunning b)))
            (All-nil (IsBatch limit total (IsRunning b)));
        cells = record {
          worked = All-weaker (IsCellBelow limit) (IsCellWorked limit) (λ c k works. k) _ below;
          below = λ runs. below;
          most = change_each (IsCellMost limit) (with_job b.options.bundle) place.at b.keys (λ c e k. k) h.cells.most;
          failed = change_each (IsCellFailed total) (with_job b.options.bundle) place.at b.keys (λ c e k. k) h.cells.failed;
        };
        stop = h.stop;
        calls = h.calls;
        reads = h.reads;
      }

  pub pending_counted : (piece : Piece) (later : List Piece) → b.pending ≡ piece ∷ later → IsCounted (with_slot (record b { pending = later }) slot (Some (live.Span piece None)))
  pending_counted piece later e =
      let k = h.counts in
      let below = subst (All (IsPieceBelow limit total (IsRunning b))) e (k.pending_below running) in
      let most = subst (All (IsPieceMost limit total (IsRunning b))) e k.pending_most in
      record {
        counts = set_counted limit total (IsRunning b) later b.returned b.slots (record {
          worked_pieces = k.worked_pieces;
          worked_batches = k.worked_batches;
          pending_below = λ runs. All-tail (IsPieceBelow limit total (IsRunning b)) piece later below;
          returned_below = k.returned_below;
          pending_most = All-tail (IsPieceMost limit total (IsRunning b)) piece later most;
          returned_most = k.returned_most;
        }) slot (Some (live.Span piece None))
            (All-cons (IsPiece limit total (IsRunning b)) piece [] (All-head (IsPieceBelow limit total (IsRunning b)) piece later below) (All-nil (IsPiece limit total (IsRunning b))))
            (All-nil (IsBatch limit total (IsRunning b)));
        cells = h.cells;
        stop = h.stop;
        calls = h.calls;
        reads = h.reads;
      }
