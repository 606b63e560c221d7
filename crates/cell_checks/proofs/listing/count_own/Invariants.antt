use Rattle.std.proofs.Common.{◌≡◌, take, true}
use Rattle.std.specs.List.{All}
use Rattle.beam_model.specs.Panes.{is_cell_at_key}
use Rattle.cell_checks.specs.Listing.{cells_in}
use Rattle.cell_checks.proofs.listing.count_own.Given as goal

abbrev pub invariant-loop-at : goal.invariant-loop-at
invariant-loop-at l = All (λ cell. is_cell_at_key l.first.node l.first.key cell ≡ true) (take l.at (cells_in l.others))
