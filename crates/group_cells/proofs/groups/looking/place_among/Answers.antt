use Rattle.cell_index.specs.Places.{is_cell_of}
use Rattle.std.proofs.Common.{sym, ◌∙◌}
use Rattle.group_cells.proofs.Looking.{found_now}
use Rattle.group_cells.proofs.groups.looking.place_among.Goals as goal

pub returns-then-is_cell_of : goal.returns-then-is_cell_of
returns-then-is_cell_of c =
    sym (found_now (is_cell_of c.args.node c.args.key.now c.args.span) c.args.cells.now c.loop-at.at c.index-cells-at.result c.loop-at-test.true c.index-cells-at.is
    (sym c.is_cell_of.ensures ∙ c.if-is_cell_of.true) c.loop-at.invariant)
