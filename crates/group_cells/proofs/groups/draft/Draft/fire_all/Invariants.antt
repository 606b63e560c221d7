use Rattle.watermarks.specs.Holds.{hold_at}
use Rattle.group_cells.specs.Undoing.{AreOfCommit}
use Rattle.group_cells.proofs.FiredInTurn.{AreFiredBelow}
use Rattle.group_cells.proofs.groups.draft.Draft.fire_all.Given as goal

abbrev pub invariant-loop-n : goal.invariant-loop-n
invariant-loop-n l = record {
  fired : AreFiredBelow l.plan l.before (hold_at l.holds) l.commit l.fn.self.cells l.n l.self.cells l.marks.items l.fired;
  same : AreOfCommit l.fn.self l.self;
}
