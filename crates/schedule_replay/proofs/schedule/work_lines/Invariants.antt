use Rattle.std.proofs.Common.{◌≡◌, ℕ, ◌+◌, ◌≤◌, List, ◌++◌, length}
use Rattle.beam_ports.specs.Observed.{observed_store}
use Rattle.chain_exec.specs.Causes.{observed_shelf}
use Rattle.bundle_work.specs.Outside.{IsKitKept}
use Rattle.lone_worker.specs.Work.{IsReadingOn}
use Rattle.schedule_words.specs.Schedules.{lines_of}
use Rattle.schedule_replay.specs.Reaching.{AreLinesWorked}
use Rattle.schedule_replay.specs.Replays.{longest}
use Rattle.schedule_replay.specs.Shown.{shown}
use Rattle.schedule_replay.specs.Standing.{IsStanding}
use Rattle.schedule_replay.proofs.schedule.work_lines.Given as goal

abbrev pub ghost-work : goal.ghost-work
ghost-work g a = g.base

abbrev pub invariant-lines : goal.invariant-lines
invariant-lines g l = record {
  done : List (List ℕ);
  split : lines_of l.schedule ≡ done ++ lines_of l.rest;
  counted : l.number ≡ length done;
  short : l.number + length l.rest ≤ longest;
  worked : AreLinesWorked g.base (observed_shelf g.F.Shelf.strict g.F.Shelf.faults l.fn.kit.shelf l.kit.shelf) (observed_store g.S.Store.files g.S.Store.faults l.fn.kit.store l.kit.store) (shown l.fn.stand) done (shown l.stand)
      l.fn.out l.out;
  standing : IsStanding g.base l.stand;
  reading : IsReadingOn g.base (g.S.Store.opened l.kit.store) l.worker.readers.items l.worker.place l.worker.bench.pager;
  kept : IsKitKept g.F.Shelf.faults g.F.Shelf.strict g.S.Store.faults g.S.Store.files g.S.Store.opened l.fn.kit.shelf l.kit.shelf l.fn.kit.store l.kit.store;
  files : l.kit.files ≡ l.fn.kit.files;
}

abbrev pub decreases-lines : goal.decreases-lines
decreases-lines g l = length l.rest
