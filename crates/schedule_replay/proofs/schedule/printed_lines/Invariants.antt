use Rattle.schedule_replay.specs.Reaching.{base_of}
use Rattle.schedule_replay.specs.Replays.{known_by}
use Rattle.schedule_replay.proofs.schedule.printed_lines.Given as goal

abbrev pub ghost-work_lines : goal.ghost-work_lines
ghost-work_lines g a = base_of (known_by g.F.Shelf.strict g.S.Store.files a.kit.now) a.stand.now.book (g.S.Store.opened a.kit.now.store) a.worker.now.readers.items
