use Rattle.worker_table.specs.Passes.{setting_of}
use Rattle.worker_table.proofs.Tells.{claim_ends, claim_goes, claim_tells}
use Rattle.worker_table.proofs.Turning.{at_slot, retold, seated}
use Rattle.worker_table.proofs.pass.Table.claim_end.Goals as goal

pub returns-clause-turn : goal.returns-clause-turn
returns-clause-turn g c = let t = c.turn.ensures.turn in at_slot _ _ _ c.slot-slot.ensures.noted (retold _ _ _ _ _ _ t (t.made.0 (setting_of c.args.self.now).known.told))

pub returns-clause-told : goal.returns-clause-told
returns-clause-told g c = let t = c.turn.ensures.turn in claim_tells _ _ _ c.slot-slot.result c.args.p _ c.slot-slot.ensures.noted (retold _ _ _ _ _ _ t (t.made.0 (setting_of c.args.self.now).known.told))

pub returns-clause-end : goal.returns-clause-end
returns-clause-end g c = let t = c.turn.ensures.turn in claim_ends _ _ _ c.slot-slot.result c.args.p _ c.turn.result _ t t.made.1

pub returns-clause-stays : goal.returns-clause-stays
returns-clause-stays g c = let t = c.turn.ensures.turn in claim_goes _ _ _ c.slot-slot.result c.args.p _ (retold _ _ _ _ _ _ t (t.made.0 (setting_of c.args.self.now).known.told))

pub returns-clause-table : goal.returns-clause-table
returns-clause-table g c = seated c.args.self.now c.args.pass.now c.turn.new.pass c.requires.table c.turn.ensures.seat c.turn.ensures.slot (returns-clause-stays g c).keeps.slot
