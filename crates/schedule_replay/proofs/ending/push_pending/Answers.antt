use Rattle.std.proofs.Common.{◌++◌, ◌∷◌, [], List, ap, map, sym, ◌∙◌}
use Rattle.std.specs.Borrow.{Bor}
use Rattle.std.specs.List.{flat_map}
use Rattle.std.proofs.lemmas.Iterator.Adapters.{YieldsList-from_rev_slice}
use Rattle.std.proofs.lemmas.Iterator.Consumers.{YieldsList-end}
use Rattle.std.proofs.lemmas.List.{map-append}
use Rattle.beam_values.specs.declared.piece.Piece.{Piece}
use Rattle.schedule_replay.specs.Replays.{pending_line}
use Rattle.schedule_replay.proofs.Printing.{printed_more}
use Rattle.schedule_replay.proofs.ending.push_pending.Goals as goal

pub loop-piece-preserved : goal.loop-piece-preserved
loop-piece-preserved c =
    let now = λ (piece : Bor Piece). piece.now in
    let yielded = c.loop-piece.yielded in
    let piece = c.in-Some.piece in
    printed_more pending_line c.args.out.now c.loop-piece.out c.push_range.new.out (map now yielded) piece.now c.loop-piece.invariant c.in_ok-push_range.ensures
    ∙ ap (λ (l : List Piece). c.args.out.now ++ flat_map pending_line l) (sym (map-append now yielded (piece ∷ [])))

pub returns : goal.returns
returns c =
    let end = YieldsList-end (YieldsList-from_rev_slice c.args.pieces.now cc) c.loop-piece.yielded _ c.loop-piece.yielded_by _ _ c.in-None.is c.next.ensures.steps in
    c.loop-piece.invariant ∙ ap (λ (l : List Piece). c.args.out.now ++ flat_map pending_line l) end.0
