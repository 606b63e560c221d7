use Rattle.known_jobs.specs.Jobs.{setting_for}
use Rattle.worker_table.proofs.pass.Table.new.Given as goal

abbrev pub ghost-picked : goal.ghost-picked
ghost-picked g a = setting_for g.known a._of.now
