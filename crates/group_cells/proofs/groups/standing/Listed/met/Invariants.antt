use Rattle.group_cells.proofs.ListedWindows.{ends_after, AreMetBy}
use Rattle.group_cells.proofs.groups.standing.Listed.met.Given as goal

abbrev pub invariant-walk : goal.invariant-walk
invariant-walk l = AreMetBy l.span l.self.by_end l.after l.met

abbrev pub decreases-walk : goal.decreases-walk
decreases-walk l = ends_after l.after l.self.by_end
