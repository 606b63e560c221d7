use Rattle.std.proofs.Common.{drop, drop_of_length-le, sym, ap, ◌∙◌, arith}
use Rattle.piece_checks.specs.Tiles.{fills}
use Rattle.piece_checks.proofs.Filling.{all_filled}
use Rattle.piece_checks.proofs.tiles.fill.Goals as goal

pub returns : goal.returns
returns c =
    let items = c.args.items.now in
    let front = c.loop-part.front in
    all_filled items front.place front.at c.loop-part.invariant.0
    ∙ ap (fills (drop front.place items) front.at) (sym (drop_of_length-le c.args.parts.now {i = c.loop-part.part-index} (omega arith)))
    ∙ sym c.loop-part.invariant.1
