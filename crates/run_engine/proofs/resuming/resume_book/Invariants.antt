use Rattle.run_engine.proofs.OneKit.{known_of}
use Rattle.run_engine.proofs.resuming.resume_book.Given as goal

abbrev pub ghost-work_alone : goal.ghost-work_alone
ghost-work_alone g a = known_of g.F.Shelf g.S.Store a.kit.now
