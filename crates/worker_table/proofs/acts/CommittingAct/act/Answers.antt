use Rattle.worker_table.proofs.Stepping.{placed_step}
use Rattle.worker_table.proofs.acts.CommittingAct.act.Goals as goal

pub returns : goal.returns
returns c = placed_step _ _ c.args.self.slot c.args.self.receipt c.commit.result c.commit.ensures.ok c.commit.ensures.err
