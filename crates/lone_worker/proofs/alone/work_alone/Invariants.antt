use Rattle.std.proofs.Common.{◌≡◌, ◌⊎◌, length, map}
use Rattle.beam_ports.specs.Observed.{observed_store}
use Rattle.book_core.specs.Left.{rounds_left}
use Rattle.book_core.specs.Steps.{IsFree, IsIdle, IsRunning}
use Rattle.chain_exec.specs.Causes.{observed_shelf}
use Rattle.known_jobs.specs.Jobs.{setting_for}
use Rattle.bundle_work.specs.Outside.{IsKitKept}
use Rattle.bundle_work.specs.Reading.{IsReading, length_in}
use Rattle.lone_worker.specs.Alone.{AreFailsCounted, IsBookIn, IsRunOn}
use Rattle.lone_worker.specs.declared.alone.AloneEnd.TheVariants as end
use Rattle.lone_worker.proofs.Rounds.{IsNoMore}
use Rattle.lone_worker.proofs.alone.work_alone.Given as goal

abbrev pub ghost-round : goal.ghost-round
ghost-round g a = setting_for g.known a.book.now

abbrev pub invariant-rounds : goal.invariant-rounds
invariant-rounds g l = record {
  run : IsRunOn g.known l.fn.book l.book;
  same : IsBookIn (setting_for g.known l.fn.book) l.book;
  free : IsFree l.book l.slot;
  idle : IsIdle l.book;
  slots : length l.book.slots ≡ length l.fn.book.slots;
  more : IsNoMore l.most l.fn.book l.book;
  begun : (l.book ≡ l.fn.book) ⊎ IsRunning l.book;
  reading : IsReading g.known.told (g.S.Store.opened l.kit.store) l.graph l.worker.readers.items l.worker.place l.worker.bench.pager;
  lengths : map length_in l.worker.readers.items ≡ l.fn.book.files;
  counted : AreFailsCounted (observed_shelf g.F.Shelf.strict g.F.Shelf.faults l.fn.kit.shelf l.kit.shelf) (observed_store g.S.Store.files g.S.Store.faults l.fn.kit.store l.kit.store) l.fn.book l.book end.Paused;
  kept : IsKitKept g.F.Shelf.faults g.F.Shelf.strict g.S.Store.faults g.S.Store.files g.S.Store.opened l.fn.kit.shelf l.kit.shelf l.fn.kit.store l.kit.store;
  files : l.kit.files ≡ l.fn.kit.files;
}

abbrev pub decreases-rounds : goal.decreases-rounds
decreases-rounds g l = rounds_left l.book
