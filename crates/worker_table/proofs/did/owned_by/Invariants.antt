use Rattle.worker_table.proofs.did.owned_by.Given as goal

abbrev pub ghost-of : goal.ghost-of
ghost-of g a = g.owners
