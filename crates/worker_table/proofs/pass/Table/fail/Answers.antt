use Rattle.worker_table.specs.Passes.{setting_of}
use Rattle.worker_table.proofs.Tells.{fail_tells}
use Rattle.worker_table.proofs.Turning.{at_slot, retold, seated}
use Rattle.worker_table.proofs.pass.Table.fail.Goals as goal

pub returns-clause-turn : goal.returns-clause-turn
returns-clause-turn g c = let t = c.turn.ensures.turn in at_slot _ _ _ c.slot-slot.ensures.noted (retold _ _ _ _ _ _ t (t.made (setting_of c.args.self.now).known.told))

pub returns-clause-told : goal.returns-clause-told
returns-clause-told g c = let t = c.turn.ensures.turn in fail_tells _ _ _ c.slot-slot.result c.args.at c.args.cause c.turn.result (retold _ _ _ _ _ _ t (t.made (setting_of c.args.self.now).known.told))

pub returns-clause-table : goal.returns-clause-table
returns-clause-table g c = seated c.args.self.now c.args.pass.now c.turn.new.pass c.requires.table c.turn.ensures.seat c.turn.ensures.slot (returns-clause-told g c).slot
