use Rattle.std.proofs.Common.{◌≡◌, ◌+◌, ◌<◌, ◌≤◌, length}
use Rattle.bundle_work.specs.Bundles.{StaysAble}
use Rattle.bundle_work.specs.Stretches.{IsTrail}
use Rattle.bundle_work.proofs.bench.Bench.work_ahead.Given as goal

abbrev pub invariant-positions : goal.invariant-positions
invariant-positions g l = record {
  trail : IsTrail l.graph (g.S.Store.opened l.fn.kit.store l.fn.self.pager.file) l.fn.self.pager.len l.piece l.fn.from.next l.fn.self.staging l.at.next l.self.staging l.self.trail;
  end : l.at.end ≡ l.fn.from.end;
  inside : l.at.next < l.at.end;
  room : 0 < l.at.room;
  few : length l.self.trail + l.left ≤ 63;
  stays : StaysAble g.F.Shelf.faults g.F.Shelf.strict g.S.Store.faults g.S.Store.files g.S.Store.opened l.graph l.piece.node l.fn.kit l.kit l.fn.self.pager l.self.pager;
}

abbrev pub decreases-positions : goal.decreases-positions
decreases-positions g l = l.left
