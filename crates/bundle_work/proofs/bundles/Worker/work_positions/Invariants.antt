use Rattle.std.proofs.Common.{◌≡◌, ◌-◌}
use Rattle.bundle_work.specs.Bundles.{StaysAble}
use Rattle.bundle_work.proofs.Stretching.{IsUnderWay}
use Rattle.bundle_work.proofs.bundles.Worker.work_positions.Given as goal

abbrev pub invariant-stretches : goal.invariant-stretches
invariant-stretches g l = record {
  own : g.C.Claims.is_of l.claims l.pass;
  only : g.C.Claims.stays l.claims l.fn.pass l.pass;
  under : IsUnderWay l.graph l.piece (g.S.Store.opened l.fn.kit.store l.fn.self.bench.pager.file) l.fn.self.bench.pager.len (g.C.Claims.known l.claims l.pass) l.at.next l.at.end l.fn.self.bench.staging l.self.bench.staging;
  stays : StaysAble g.F.Shelf.faults g.F.Shelf.strict g.S.Store.faults g.S.Store.files g.S.Store.opened l.graph l.piece.node l.fn.kit l.kit l.fn.self.bench.pager l.self.bench.pager;
  readers : l.self.readers.items ≡ l.fn.self.readers.items;
  place : l.self.place ≡ l.fn.self.place;
}

abbrev pub decreases-stretches : goal.decreases-stretches
decreases-stretches g l = l.piece.range.to - l.at.next
