use Rattle.worker_table.specs.Passes.{setting_of}
use Rattle.worker_table.proofs.Tells.{stop_tells}
use Rattle.worker_table.proofs.Turning.{retold, seated}
use Rattle.worker_table.proofs.pass.Table.stop.Goals as goal

pub returns-clause-turn : goal.returns-clause-turn
returns-clause-turn g c = let t = c.turn.ensures.turn in retold _ _ _ _ _ _ t (t.made (setting_of c.args.self.now).known.told)

pub returns-clause-told : goal.returns-clause-told
returns-clause-told g c = stop_tells _ _ _ (returns-clause-turn g c)

pub returns-clause-table : goal.returns-clause-table
returns-clause-table g c = seated c.args.self.now c.args.pass.now c.turn.new.pass c.requires.table c.turn.ensures.seat c.turn.ensures.slot (returns-clause-told g c).keeps.slot
