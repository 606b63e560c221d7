use Rattle.worker_table.proofs.table.picked.Given as goal

abbrev pub ghost-of : goal.ghost-of
ghost-of g a = g.setting
