use Rattle.std.proofs.Common.{◌≡◌, take}
use Rattle.cell_checks.specs.Listing.{cells_in}
use Rattle.cell_checks.proofs.listing.all_places.Given as goal

abbrev pub invariant-loop-cell : goal.invariant-loop-cell
invariant-loop-cell l = cells_in l.places.items ≡ take l.cell-index l.cells
