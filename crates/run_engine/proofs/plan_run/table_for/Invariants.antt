use Rattle.run_engine.proofs.plan_run.table_for.Given as goal

abbrev pub ghost-new : goal.ghost-new
ghost-new g a = g.known
