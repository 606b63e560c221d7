use Rattle.std.proofs.Common.{◌-◌, drop, length}
use Rattle.cell_checks.specs.Listing.{AreSaneGroups, cells_in}
use Rattle.cell_checks.proofs.sane.are_sane_groups.Given as goal

-- what is asked of the cells that are left is what is asked of all
abbrev pub invariant-loop-at : goal.invariant-loop-at
invariant-loop-at l =
    (AreSaneGroups l.plan l.marks (drop l.at (cells_in l.listed)) → AreSaneGroups l.plan l.marks (cells_in l.listed))
    × (AreSaneGroups l.plan l.marks (cells_in l.listed) → AreSaneGroups l.plan l.marks (drop l.at (cells_in l.listed)))

abbrev pub decreases-loop-at : goal.decreases-loop-at
decreases-loop-at l = length l.listed - l.at
