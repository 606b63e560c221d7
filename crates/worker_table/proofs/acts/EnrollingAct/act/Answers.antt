use Rattle.worker_table.proofs.Stepping.{enrolled_step}
use Rattle.worker_table.proofs.acts.EnrollingAct.act.Goals as goal

pub returns : goal.returns
returns c = enrolled_step _ _ c.enroll.result c.enroll.ensures.ok c.enroll.ensures.err
