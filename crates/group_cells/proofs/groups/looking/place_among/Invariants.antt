use Rattle.std.proofs.Common.{◌≡◌, None, take}
use Rattle.cell_index.specs.Places.{place_of}
use Rattle.group_cells.proofs.groups.looking.place_among.Given as goal

abbrev pub invariant-loop-at : goal.invariant-loop-at
invariant-loop-at l = place_of l.node l.key l.span (take l.at l.cells) ≡ None
