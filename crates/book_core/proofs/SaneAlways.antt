-- Every book is sane: the opening is, and every step leads from a sane book to a sane one.
use Rattle.std.proofs.Common.{ℕ, ◌+◌, ◌≤◌, List, [], ◌++◌, arith}
use Rattle.std.specs.Prelude.{Option}
use Rattle.std.specs.List.{All}
use Rattle.std.proofs.lemmas.List.Elements.{All-append}
use Rattle.beam_values.specs.declared.file_text.FileText.{FileText}
use Rattle.beam_values.specs.declared.options.Options.{Options}
use Rattle.beam_values.specs.declared.piece.FileLen.{FileLen}
use Rattle.beam_values.specs.declared.piece.Piece.{Piece}
use Rattle.beam_values.specs.declared.plan.Plan.{Plan}
use Rattle.book_core.specs.Book.{SeenBook, live_batches, live_pieces}
use Rattle.book_core.specs.Facts.{AreAttemptsCounted, AreHeldOnce, IsAttemptedWithin, IsStopNoted, IsWellFormed}
use Rattle.book_core.specs.Runs.{IsOpening, Reached, opened}
use Rattle.book_core.specs.Sane.{AreListed, AreWaitingInOrder, IsSane}
use Rattle.book_core.specs.Steps.{Action, Answer, Step}
use Rattle.book_core.specs.declared.live.Batch.{Batch}
use Rattle.book_core.proofs.Attempts.{IsCounted}
use Rattle.book_core.proofs.AttemptsKept.{keeps_counted}
use Rattle.book_core.proofs.Cases.{AreAlways, Anything, Both, always_reached, step_keeps}
use Rattle.book_core.proofs.Formed.{keeps_formed}
use Rattle.book_core.proofs.HeldOnce.{keeps_held}
use Rattle.book_core.proofs.Partitioned.{keeps_within, opening_partitioned, partition_kept}
use Rattle.book_core.proofs.KeysAlways.{AreKeysWorked, keeps_keys}
use Rattle.book_core.proofs.KeysKept.{KeysSane}
use Rattle.book_core.proofs.PiecesListed.{at_most, keeps_listed}
use Rattle.book_core.proofs.RisingMarks.{IsMarked, kept_marks, keeps_marked, marked_of}
use Rattle.book_core.proofs.SaneResults.{AreSaneResults, keeps_results}
use Rattle.book_core.proofs.SetAside.{opening_spent, spent_kept}
use Rattle.book_core.proofs.Slotted.{All-append_left, All-append_right}
use Rattle.book_core.proofs.Sources.{AreLiveSound, source_step}
use Rattle.book_core.proofs.TriesSummed.{AreTogether, opening_together, together_kept}
use Rattle.book_core.proofs.WaitingOrder.{keeps_order}

-- ---- attempts, as they are counted and as it is said

counted_of : (b : SeenBook) → AreAttemptsCounted b → IsStopNoted b b.stopped → IsCounted b
counted_of b h stop = record {
  counts =
      let total = b.calls + b.reads in
      let most = All-append_left (λ (batch : Batch). batch.attempts ≤ total) b.returned (live_batches b) h.batches in
      let worked = All-append_right (λ (batch : Batch). batch.attempts ≤ total) b.returned (live_batches b) h.batches in
      record {
        worked_pieces = h.worked_pieces;
        worked_batches = λ k d inside. (h.worked_batches k d inside, worked k d inside);
        pending_below = h.pending;
        returned_below = h.returned;
        pending_most = h.pending_most;
        returned_most = λ k d inside. (h.returned_most k d inside, most k d inside);
      };
  cells = record { worked = h.worked_keys; below = h.keys; most = h.keys_most; failed = h.keys_failed };
  stop = stop;
  calls = h.calls;
  reads = h.reads;
}

attempts_of : (b : SeenBook) → IsCounted b → AreTogether b → AreAttemptsCounted b
attempts_of b h together = record {
  worked_pieces = h.counts.worked_pieces;
  worked_batches = λ k d inside. (h.counts.worked_batches k d inside).0;
  worked_keys = h.cells.worked;
  pending = h.counts.pending_below;
  returned = h.counts.returned_below;
  keys = h.cells.below;
  pending_most = h.counts.pending_most;
  returned_most = λ k d inside. (h.counts.returned_most k d inside).0;
  keys_most = h.cells.most;
  together = together;
  keys_failed = h.cells.failed;
  batches =
      let total = b.calls + b.reads in
      All-append (λ (batch : Batch). batch.attempts ≤ total) b.returned (live_batches b)
      (λ k d inside. (h.counts.returned_most k d inside).1) (λ k d inside. (h.counts.worked_batches k d inside).1);
  calls = h.calls;
  reads = h.reads;
}

-- each piece by itself
pub each_tried : (b : SeenBook) → AreAttemptsCounted b → All (λ piece. piece.attempts ≤ b.calls + b.reads) (b.pending ++ live_pieces b)
each_tried b h k d inside = omega (arith, h.together, at_most (λ (piece : Piece). piece.attempts) (b.pending ++ live_pieces b) k d inside)

-- ---- the opening

opening_sane : (b first : SeenBook) → IsOpening b.plan b.files b.options first → IsSane first
opening_sane b first opening =
    let none : Option (List FileText) = Rattle.std.specs.Prelude.None in
    let counted = (keeps_counted none).opens b first opening in
    let results = (keeps_results none).opens b first opening in
    let keyed = (keeps_keys none).opens b first opening in
    record {
      formed = (keeps_formed none).opens b first opening;
      listed = (keeps_listed none).opens b first opening;
      partitioned = opening_partitioned b first opening;
      attempted = (keeps_within none).opens b first opening;
      attempts = attempts_of first counted (opening_together b first opening);
      spent = opening_spent b first opening;
      stop = counted.stop;
      held = (keeps_held none).opens b first opening;
      order = (keeps_order none).opens b first opening;
      marks = kept_marks first ((keeps_marked none).opens b first opening);
      cells = results.cells;
      panes = results.panes;
      dropped = results.dropped;
      keys = keyed.0;
      turns = keyed.1;
      writes = results.writes;
    }

pub opened_sane : (plan : Plan) (files : List FileLen) (options : Options) (first : SeenBook) → IsOpening plan files options first → IsSane first
opened_sane plan files options first opening = opening_sane (opened plan files options []) first opening

-- ---- a step

pub step_sane : (told : Option (List FileText)) (b new : SeenBook) (slot : ℕ) (action : Action) (answer : Answer) → Step told b slot action answer new → IsSane b → IsSane new
step_sane told b new slot action answer step h =
    let counted = counted_of b h.attempts h.stop in
    let marked = marked_of b h.marks in
    let now_counted = step_keeps told IsSane IsCounted (keeps_counted told) b new slot action answer step h counted in
    let sound : AreLiveSound b = record { attempted = h.attempted; below = h.attempts.worked_pieces } in
    let source = source_step told b new slot action answer step sound in
    let now_marked = step_keeps told (Both (Both IsWellFormed AreHeldOnce) KeysSane) IsMarked (keeps_marked told) b new slot action answer step ((h.formed, h.held), h.keys) marked in
    let now_keyed = step_keeps told (Both (Both IsWellFormed AreHeldOnce) IsMarked) AreKeysWorked (keeps_keys told) b new slot action answer step ((h.formed, h.held), marked) (h.keys, h.turns) in
    let now_left =
    step_keeps told (Both (Both (Both IsWellFormed AreHeldOnce) KeysSane) IsMarked) AreSaneResults (keeps_results told) b new slot action answer step (((h.formed, h.held), h.keys), marked)
    (record { cells = h.cells; panes = h.panes; dropped = h.dropped; writes = h.writes }) in
    record {
      formed = step_keeps told Anything IsWellFormed (keeps_formed told) b new slot action answer step tt h.formed;
      listed = step_keeps told Anything AreListed (keeps_listed told) b new slot action answer step tt h.listed;
      partitioned = partition_kept b slot action new source h.spent h.partitioned;
      attempted = step_keeps told Anything (λ (x : SeenBook). All IsAttemptedWithin x.slots) (keeps_within told) b new slot action answer step tt h.attempted;
      attempts = attempts_of new now_counted (together_kept b h.formed h.spent sound h.attempts.pending_most slot action new source h.attempts.together);
      spent = spent_kept b slot action new source h.spent;
      stop = now_counted.stop;
      held = step_keeps told IsWellFormed AreHeldOnce (keeps_held told) b new slot action answer step h.formed h.held;
      order = step_keeps told AreHeldOnce AreWaitingInOrder (keeps_order told) b new slot action answer step h.held h.order;
      marks = kept_marks new now_marked;
      cells = now_left.cells;
      panes = now_left.panes;
      dropped = now_left.dropped;
      keys = now_keyed.0;
      turns = now_keyed.1;
      writes = now_left.writes;
    }

pub sane_always : (told : Option (List FileText)) → AreAlways told IsSane
sane_always told = record { opens = opening_sane; steps = step_sane told }

pub reached_sane : (told : Option (List FileText)) (b : SeenBook) → Reached told b → IsSane b
reached_sane told = always_reached told IsSane (sane_always told)
