use Rattle.std.proofs.Common.{ℕ, List, ◌++◌, take}
use Rattle.bundle_work.specs.Openings.{AreOpened}
use Rattle.command_ends.specs.Retrying.{IsPatient, KeepsTrying}
use Rattle.run_engine.specs.Openings.{AgreeInLength}
use Rattle.run_engine.proofs.opening.open_names.Given as goal

abbrev pub invariant-loop-name : goal.invariant-loop-name
invariant-loop-name g l = record {
  opened : (before : List (List ℕ)) → AreOpened (g.S.Store.files l.initial.store.store.now) (g.S.Store.opened l.initial.store.store.now) before l.initial.files
      → AreOpened (g.S.Store.files l.store.store.now) (g.S.Store.opened l.store.store.now) (before ++ take l.name-index l.names) l.files;
  lengths : AgreeInLength l.first l.initial.files → AgreeInLength l.first l.files;
  patient : IsPatient l.store;
  tried : KeepsTrying g.S.Store l.initial.store l.store;
}
