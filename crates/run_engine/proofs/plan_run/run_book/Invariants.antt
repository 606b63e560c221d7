use Rattle.std.specs.List.{list_all}
use Rattle.run_engine.proofs.PlanRuns.{told_of}
use Rattle.run_engine.proofs.plan_run.run_book.Given as goal

abbrev pub ghost-table_for : goal.ghost-table_for
ghost-table_for g a = record { told = told_of g.F.Shelf.strict g.S.Store.files g.S.Store.opened a._kits.now; strict = list_all (λ kit. g.F.Shelf.strict kit.shelf) a._kits.now }
