-- How the book's own indexes agree with its data: the marks that hold each node back, and the room that is kept for what is worked.
use Rattle.std.specs.Prelude.{◌≡◌, Bool, true, false, ℕ, ◌<◌, ◌≤◌, ℤ, List, [], ◌∷◌, ◌++◌, length, map, slice_get, unwrap_or, Option}
use Rattle.std.specs.Int.{int_min}
use Rattle.std.specs.Option.{option_map}
use Rattle.beam_values.specs.Bags.{IsSameBag}
use Rattle.beam_values.specs.Marks.{least_mark}
use Rattle.beam_values.specs.declared.fault.Cause.{Cause}
use Rattle.beam_values.specs.declared.fault.FaultNote.{FaultNote}
use Rattle.beam_values.specs.declared.outcome.StopCause.{StopCause}
use Rattle.beam_values.specs.declared.outcome.StopCause.TheVariants as stop
use Rattle.beam_values.specs.declared.piece.Piece.{Piece}
use Rattle.beam_values.specs.declared.plan.Plan.{Plan}
use Rattle.beam_model.specs.Holds.{Hold, piece_hold, least_hold, marks_held}
use Rattle.retry_core.specs.declared.attempt.Next.{Next}
use Rattle.retry_core.specs.declared.attempt.Next.TheVariants.{Retry, Spent}
use Rattle.split_core.specs.Order.{with_piece}
use Rattle.stateful_core.specs.Cells.{KeyCell}
use Rattle.stateful_core.specs.Taking.{change, tried}
use Rattle.watermarks.specs.Holds.{SeenHolds, hold_at}
use Rattle.book_core.specs.Book.{SeenBook, live_pieces, live_batches, held, hold_of, holds, places_kept}
use Rattle.book_core.specs.Changes.{tried_piece, tried_batch, or_stopped}
use Rattle.book_core.specs.Sane.{IsSane}
use Rattle.book_core.specs.declared.live.Batch.{Batch}
use Rattle.book_core.specs.declared.live.Live.{Live}
use Rattle.book_core.specs.declared.live.Live.TheVariants as live

-- the marks that are held at a node
abbrev pub marks_in : List SeenHolds → ℕ → List ℤ
marks_in held node = unwrap_or (option_map (λ h. h.marks) (slice_get held node)) []

-- the least of them
abbrev pub least_in : List SeenHolds → ℕ → ℤ
least_in held node = least_mark (marks_in held node)

-- each node's marks in `held` are the marks of its holds
pub record AreHeldIn (held : List SeenHolds) (holds : List Hold) : Type 0 where
  pub each : (node : ℕ) → IsSameBag (marks_in held node) (marks_held holds node)

-- what pieces and panes hold back
abbrev pub own_holds : SeenBook → List Hold
own_holds b = map (piece_hold b.plan) (b.pending ++ live_pieces b) ++ map hold_of (held b)

-- all that holds nodes of the book back
abbrev pub all_holds : SeenBook → List Hold
all_holds b = map (piece_hold b.plan) (b.pending ++ live_pieces b) ++ holds b

-- the lesser of the marks that are held at a node and of these holds
abbrev pub least_with : List SeenHolds → List Hold → ℕ → ℤ
least_with held others node = int_min (least_in held node) (least_hold others node)

-- of each node of the plan the least of both
abbrev pub AreLeastWith : Plan → List SeenHolds → List Hold → List ℤ → Type 0
AreLeastWith plan held others least = (n : ℕ) → n < length plan.nodes → hold_at least n ≡ least_with held others n

-- a sane book, with the marks at which its pieces and panes hold nodes back, and the places kept for each piece and each batch that is worked
pub record IsIndexed (b : SeenBook) (held : List SeenHolds) (piece_room batch_room : ℕ) : Type 0 where
  pub sane : IsSane b
  pub sized : length held ≡ length b.plan.nodes
  pub holds_back : AreHeldIn held (own_holds b)
  pub pieces : places_kept b ≤ piece_room
  pub batches : length (live_batches b) ≤ batch_room

-- how many more marks can be held at a node before memory is asked for
abbrev pub room_in : List SeenHolds → ℕ → ℕ
room_in held node = unwrap_or (option_map (λ h. h.room) (slice_get held node)) 0

-- the pending pieces, the batches, the key cells and the cause of a stop after a fail that breaks no range
abbrev pub pieces_back : List Piece → Live → ℕ → Cause → List Piece
pieces_back pending (live.Span piece attempted) at cause = with_piece (tried_piece piece) pending
pieces_back pending (live.Batch batch) at cause = pending
pieces_back pending (live.Key turn) at cause = pending

abbrev pub batches_back : List Batch → Live → List Batch
batches_back returned (live.Span piece attempted) = returned
batches_back returned (live.Batch batch) = returned ++ tried_batch batch ∷ []
batches_back returned (live.Key turn) = returned

abbrev pub keys_back : List KeyCell → Live → List KeyCell
keys_back cells (live.Span piece attempted) = cells
keys_back cells (live.Batch batch) = cells
keys_back cells (live.Key turn) = change tried turn.cell cells

-- the retry rule gave the job up
abbrev pub is_spent : Next → Bool
is_spent (Retry attempts) = false
is_spent Spent = true

abbrev pub stopped_after : Bool → Option StopCause → FaultNote → Option StopCause
stopped_after true kept note = or_stopped kept (stop.Spent note)
stopped_after false kept note = kept
