use Rattle.std.proofs.Common.{take}
use Rattle.group_cells.specs.KnownWindows.{AreStanding}
use Rattle.group_cells.proofs.groups.keyed.standing_of.Given as goal

abbrev pub invariant-loop-place : goal.invariant-loop-place
invariant-loop-place l = AreStanding l.plan l.standing (take l.place l.cells)
