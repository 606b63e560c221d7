use Rattle.std.proofs.Common.{◌<◌, [], length, map, arith, ap, sym, subst, refl, ◌∙◌}
use Rattle.std.specs.List.{All}
use Rattle.beam_values.specs.declared.plan.Node.{Node}
use Rattle.beam_values.specs.declared.plan.Plan.{Plan}
use Rattle.beam_values.specs.Marks.{AreMarks}
use Rattle.beam_model.specs.Holds.{piece_hold}
use Rattle.book_core.specs.Book.{SeenBook, waiting_in}
use Rattle.book_core.specs.Indexes.{IsIndexed, AreHeldIn, least_in}
use Rattle.book_core.specs.Runs.{pieces_of, IsOpening}
use Rattle.book_core.proofs.Opened.{IsFound, listed_below, is_opening, is_indexed, opened_as}
use Rattle.book_core.proofs.OpenedPieces.{IsPieceOf}
use Rattle.book_core.proofs.book.Book.opening.Goals as goal

pub hold_pieces-requires-clause-within : goal.hold_pieces-requires-clause-within
hold_pieces-requires-clause-within c =
    subst (λ (plan : Plan). All (IsPieceOf (length plan.nodes)) c.pending.result.now) (sym c.plan-plan.ensures.value)
    (listed_below c.args.graph c.args.files c.args.options.chunk c.in_ok-pieces.pieces.pending c.pending.result.now c.requires.lengths
    (c.in_ok-pieces.ensures ∙ ap (pieces_of c.args.options.chunk) c.as_slice.ensures) c.pending.ensures)

pub invariant_of-result : goal.invariant_of-result
invariant_of-result c =
    let few : length c.in_ok-pieces.pieces.pending < 4294967295 = omega (arith, c.if-len-ge-GREATEST_COUNT.false, c.len.ensures) in
    let found : IsFound c.args.graph c.args.files c.args.options c.in_ok-held.held c.in_ok-pieces.pieces.pending c.pending.result.now c.in_ok-marks.marks = record {
      checked = c.plan-plan.ensures.checked;
      lengths = c.requires.lengths;
      allowed = c.requires.allowed;
      pending_is = c.in_ok-pieces.ensures ∙ ap (pieces_of c.args.options.chunk) c.as_slice.ensures;
      listed_is = c.pending.ensures;
      few = few;
      holds_back = subst (λ (plan : Plan). AreHeldIn c.in_ok-held.held (map (piece_hold plan) c.pending.result.now)) c.plan-plan.ensures.value c.in_ok-held.ensures.held;
      sized = c.in_ok-held.ensures.sized ∙ ap (λ (plan : Plan). length plan.nodes) c.plan-plan.ensures.value;
      marked = subst (λ (plan : Plan). AreMarks plan (least_in c.in_ok-held.held) c.in_ok-marks.marks) c.plan-plan.ensures.value c.in_ok-marks.ensures;
    } in
    record {
      indexed =
          subst (λ (b : SeenBook). IsIndexed b c.in_ok-held.held c.in_ok-pieces.pieces.room c.new-3.result.room)
          (opened_as c.args.graph c.args.files c.args.options c.in_ok-marks.marks _ refl refl refl found.pending_is c.new-2.ensures.items
          (c.in_ok-queues.ensures ∙ ap (map (λ (node : Node). [])) c.as_slice-2.ensures ∙ ap (λ (plan : Plan). map (λ (node : Node). []) plan.nodes) c.plan-plan.ensures.value)
          (ap (λ r. r.items) c.new-3.ensures) (ap (λ g. g.cells) c.in_ok-groups.ensures) (ap (λ g. g.dropped) c.in_ok-groups.ensures) c.new-4.ensures c.new-results.ensures.panes c.new-results.ensures.done c.new-results.ensures.dead c.new-results.ensures.written c.new-results.ensures.commits
          (ap (λ f. f.calls) c.new-5.ensures) (ap (λ f. f.reads) c.new-5.ensures) refl)
          (is_indexed c.args.graph c.args.files c.args.options c.in_ok-held.held c.in_ok-pieces.pieces.pending c.pending.result.now c.in_ok-marks.marks found c.in_ok-pieces.pieces.room c.new-3.result.room);
      grouped = ap (λ g. g.plan) c.in_ok-groups.ensures ∙ c.plan-plan.ensures.value;
      counted = sym (ap waiting_in c.new-4.ensures);
    }

pub returns : goal.returns
returns c =
    let few : length c.in_ok-pieces.pieces.pending < 4294967295 = omega (arith, c.if-len-ge-GREATEST_COUNT.false, c.len.ensures) in
    let found : IsFound c.args.graph c.args.files c.args.options c.in_ok-held.held c.in_ok-pieces.pieces.pending c.pending.result.now c.in_ok-marks.marks = record {
      checked = c.plan-plan.ensures.checked;
      lengths = c.requires.lengths;
      allowed = c.requires.allowed;
      pending_is = c.in_ok-pieces.ensures ∙ ap (pieces_of c.args.options.chunk) c.as_slice.ensures;
      listed_is = c.pending.ensures;
      few = few;
      holds_back = subst (λ (plan : Plan). AreHeldIn c.in_ok-held.held (map (piece_hold plan) c.pending.result.now)) c.plan-plan.ensures.value c.in_ok-held.ensures.held;
      sized = c.in_ok-held.ensures.sized ∙ ap (λ (plan : Plan). length plan.nodes) c.plan-plan.ensures.value;
      marked = subst (λ (plan : Plan). AreMarks plan (least_in c.in_ok-held.held) c.in_ok-marks.marks) c.plan-plan.ensures.value c.in_ok-marks.ensures;
    } in
    subst (λ (b : SeenBook). IsOpening c.args.graph c.args.files c.args.options b)
    (opened_as c.args.graph c.args.files c.args.options c.in_ok-marks.marks _ refl refl refl found.pending_is c.new-2.ensures.items
    (c.in_ok-queues.ensures ∙ ap (map (λ (node : Node). [])) c.as_slice-2.ensures ∙ ap (λ (plan : Plan). map (λ (node : Node). []) plan.nodes) c.plan-plan.ensures.value)
    (ap (λ r. r.items) c.new-3.ensures) (ap (λ g. g.cells) c.in_ok-groups.ensures) (ap (λ g. g.dropped) c.in_ok-groups.ensures) c.new-4.ensures c.new-results.ensures.panes c.new-results.ensures.done c.new-results.ensures.dead c.new-results.ensures.written c.new-results.ensures.commits
    (ap (λ f. f.calls) c.new-5.ensures) (ap (λ f. f.reads) c.new-5.ensures) refl)
    (is_opening c.args.graph c.args.files c.args.options c.in_ok-held.held c.in_ok-pieces.pieces.pending c.pending.result.now c.in_ok-marks.marks found)
