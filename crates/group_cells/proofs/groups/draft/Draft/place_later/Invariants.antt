use Rattle.std.proofs.Common.{◌+◌, ◌≤◌, length}
use Rattle.std.specs.BTreeMap.{btree_map_len}
use Rattle.group_cells.specs.KeyLists.{all_listed}
use Rattle.group_cells.specs.KnownWindows.{AreStanding}
use Rattle.group_cells.specs.Undoing.{AreOfCommit}
use Rattle.group_cells.proofs.SessionsInTurn.{ArePlacedYet}
use Rattle.group_cells.proofs.groups.draft.Draft.place_later.Given as goal

abbrev pub invariant-keys : goal.invariant-keys
invariant-keys l = record {
  yet : ArePlacedYet l.commit.plan.now l.commit.before.now l.commit.number l.fn.taken l.fn.self.cells l.left l.self.cells;
  grown : length l.self.cells + all_listed l.left ≤ length l.fn.self.cells + length l.fn.taken;
  standing : AreStanding l.commit.plan.now l.standing l.self.cells;
  same : AreOfCommit l.fn.self l.self;
}

abbrev pub decreases-keys : goal.decreases-keys
decreases-keys l = btree_map_len l.left
