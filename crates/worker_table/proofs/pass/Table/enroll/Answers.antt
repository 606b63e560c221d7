use Rattle.worker_table.specs.Passes.{setting_of}
use Rattle.worker_table.proofs.Tells.{enroll_tells}
use Rattle.worker_table.proofs.Turning.{retold}
use Rattle.worker_table.proofs.pass.Table.enroll.Goals as goal

pub returns-clause-turn : goal.returns-clause-turn
returns-clause-turn g c = let t = c.turn-answer.ensures.turn in retold _ _ _ _ _ _ t (t.made (setting_of c.args.self.now).known.told)

pub returns-clause-told : goal.returns-clause-told
returns-clause-told g c = enroll_tells _ _ _ c.turn-answer.result c.requires.slot (returns-clause-turn g c)
