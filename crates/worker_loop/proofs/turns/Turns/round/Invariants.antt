use Rattle.worker_table.specs.Passes.{setting_of}
use Rattle.worker_loop.proofs.turns.Turns.round.Given as goal

abbrev pub ghost-work_job : goal.ghost-work_job
ghost-work_job g a = setting_of a.claims.now.table.now
