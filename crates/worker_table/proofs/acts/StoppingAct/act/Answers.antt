use Rattle.worker_table.proofs.acts.StoppingAct.act.Goals as goal

pub returns : goal.returns
returns c = c.stop.ensures 0
