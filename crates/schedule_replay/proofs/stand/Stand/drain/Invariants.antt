use Rattle.std.proofs.Common.{◌≡◌, ℕ, true}
use Rattle.beam_ports.specs.Observed.{observed_store}
use Rattle.book_core.specs.Left.{rounds_left}
use Rattle.chain_exec.specs.Causes.{observed_shelf}
use Rattle.bundle_work.specs.Outside.{IsKitKept}
use Rattle.lone_worker.specs.Work.{IsReadingOn}
use Rattle.schedule_replay.specs.Draining.{AreLinesDrained, OthersRest}
use Rattle.schedule_replay.specs.Shown.{shown}
use Rattle.schedule_replay.specs.Standing.{IsStanding}
use Rattle.schedule_replay.specs.Stands.{may_take, work_at}
use Rattle.schedule_replay.proofs.stand.Stand.drain.Given as goal

abbrev pub ghost-drain_job : goal.ghost-drain_job
ghost-drain_job g a = g.base

abbrev pub invariant-jobs : goal.invariant-jobs
invariant-jobs g l = record {
  emitted : ℕ;
  lines : AreLinesDrained g.base (observed_shelf g.F.Shelf.strict g.F.Shelf.faults l.fn.kit.shelf l.kit.shelf) (observed_store g.S.Store.files g.S.Store.faults l.fn.kit.store l.kit.store) 0 emitted (shown l.fn.self) (shown l.self);
  free : may_take (work_at (shown l.self) 0) ≡ true;
  others : OthersRest (shown l.self);
  standing : IsStanding g.base l.self;
  reading : IsReadingOn g.base (g.S.Store.opened l.kit.store) l.worker.readers.items l.worker.place l.worker.bench.pager;
  kept : IsKitKept g.F.Shelf.faults g.F.Shelf.strict g.S.Store.faults g.S.Store.files g.S.Store.opened l.fn.kit.shelf l.kit.shelf l.fn.kit.store l.kit.store;
  files : l.kit.files ≡ l.fn.kit.files;
}

abbrev pub decreases-jobs : goal.decreases-jobs
decreases-jobs g l = rounds_left l.self.book
