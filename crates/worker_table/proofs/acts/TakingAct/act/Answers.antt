use Rattle.worker_table.proofs.Stepping.{taken_step}
use Rattle.worker_table.proofs.acts.TakingAct.act.Goals as goal

pub returns : goal.returns
returns c = taken_step _ _ c.args.self.slot c.take.result c.requires c.take.ensures.ok c.take.ensures.err
