use Rattle.std.proofs.Common.{◌≡◌, ℕ, ◌+◌, ◌-◌, true}
use Rattle.beam_ports.specs.Observed.{observed_store}
use Rattle.book_core.specs.Left.{rounds_left}
use Rattle.chain_exec.specs.Causes.{observed_shelf}
use Rattle.known_jobs.specs.Calls.{HasAttempted}
use Rattle.known_jobs.specs.Jobs.{known_at}
use Rattle.bundle_work.specs.Outside.{IsKitKept}
use Rattle.lone_worker.specs.Work.{IsReadingOn}
use Rattle.schedule_replay.specs.Draining.{AreLinesDrained, OthersRest}
use Rattle.schedule_replay.specs.Shown.{shown}
use Rattle.schedule_replay.specs.Standing.{IsStanding}
use Rattle.schedule_replay.specs.Stands.{may_claim, work_at}
use Rattle.schedule_replay.proofs.Onward.{all_lens, next_of}
use Rattle.schedule_replay.proofs.stand.Stand.claim_all.Given as goal

abbrev pub ghost-claim : goal.ghost-claim
ghost-claim g a = g.base

abbrev pub invariant-claims : goal.invariant-claims
invariant-claims g l = record {
  emitted : ℕ;
  counted : emitted + l.left ≡ g.base.setting.options.bundle;
  lines : AreLinesDrained g.base (observed_shelf g.F.Shelf.strict g.F.Shelf.faults l.fn.kit.shelf l.kit.shelf) (observed_store g.S.Store.files g.S.Store.faults l.fn.kit.store l.kit.store) 0 emitted (shown l.fn.self) (shown l.self);
  may : may_claim (work_at (shown l.self) 0) ≡ true;
  attempted : l.left ≡ 0 → HasAttempted (known_at l.self.book 0);
  standing : IsStanding g.base l.self;
  others : OthersRest (shown l.self);
  rounds : rounds_left l.self.book ≡ rounds_left l.fn.self.book;
  reading : IsReadingOn g.base (g.S.Store.opened l.kit.store) l.worker.readers.items l.worker.place l.worker.bench.pager;
  kept : IsKitKept g.F.Shelf.faults g.F.Shelf.strict g.S.Store.faults g.S.Store.files g.S.Store.opened l.fn.kit.shelf l.kit.shelf l.fn.kit.store l.kit.store;
  files : l.kit.files ≡ l.fn.kit.files;
}

abbrev pub decreases-claims : goal.decreases-claims
decreases-claims g l = all_lens g.base.setting.files - next_of (work_at (shown l.self) 0)
