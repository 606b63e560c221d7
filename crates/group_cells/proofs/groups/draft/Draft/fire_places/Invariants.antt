use Rattle.std.proofs.Common.{take}
use Rattle.group_cells.specs.FiredUpTo.{AreFiredUpTo}
use Rattle.group_cells.specs.Undoing.{AreOfCommit}
use Rattle.group_cells.proofs.FiredPlaces.{ArePassed}
use Rattle.group_cells.proofs.groups.draft.Draft.fire_places.Given as goal

abbrev pub invariant-loop-place : goal.invariant-loop-place
invariant-loop-place l = record {
  fired : AreFiredUpTo l.rules l.node l.commit l.mark l.fn.self.cells l.done l.self.cells l.panes.items;
  passed : ArePassed l.rules l.node l.commit l.mark l.fn.self.cells l.done (take l.place-index l.places);
  same : AreOfCommit l.fn.self l.self;
}
