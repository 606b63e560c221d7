use Rattle.worker_table.proofs.Tells.{help_tells}
use Rattle.worker_table.proofs.Turning.{at_slot, help_turn, seated}
use Rattle.worker_table.proofs.pass.Table.split_other.Goals as goal

pub returns-clause-turn : goal.returns-clause-turn
returns-clause-turn g c = at_slot _ _ _ c.slot-slot.ensures.noted (help_turn _ _ _ c.slot-slot.result c.turn.result c.cut_at.result c.cut_at.ensures c.turn.ensures.turn)

pub returns-clause-told : goal.returns-clause-told
returns-clause-told g c = help_tells _ _ _ c.slot-slot.result c.cut_at.result (help_turn _ _ _ c.slot-slot.result c.turn.result c.cut_at.result c.cut_at.ensures c.turn.ensures.turn)

pub returns-clause-table : goal.returns-clause-table
returns-clause-table g c = seated c.args.self.now c.args.pass.now c.turn.new.pass c.requires.table c.turn.ensures.seat c.turn.ensures.slot (returns-clause-told g c).keeps.slot
