use Rattle.worker_table.proofs.Tells.{commit_again, commit_back, commit_goes, commit_tells}
use Rattle.worker_table.proofs.Turning.{at_slot, commit_turn, seated}
use Rattle.worker_table.proofs.pass.Table.commit.Goals as goal

pub returns-clause-turn : goal.returns-clause-turn
returns-clause-turn g c = at_slot _ _ _ c.slot-slot.ensures.noted (commit_turn _ _ _ c.slot-slot.result c.args.receipt c.turn.result c.slot-slot.ensures.noted c.requires.given c.turn.ensures.turn)

pub returns-clause-told : goal.returns-clause-told
returns-clause-told g c = commit_tells _ _ _ c.slot-slot.result c.args.receipt c.turn.result (commit_turn _ _ _ c.slot-slot.result c.args.receipt c.turn.result c.slot-slot.ensures.noted c.requires.given c.turn.ensures.turn)

pub returns-clause-back : goal.returns-clause-back
returns-clause-back g c = commit_back _ _ _ c.slot-slot.result c.args.receipt c.turn.result c.turn.ensures.turn

pub returns-clause-again : goal.returns-clause-again
returns-clause-again g c =
    commit_again _ _ _ c.slot-slot.result c.args.receipt c.turn.result c.slot-slot.ensures.noted c.requires.given
    (commit_turn _ _ _ c.slot-slot.result c.args.receipt c.turn.result c.slot-slot.ensures.noted c.requires.given c.turn.ensures.turn) (returns-clause-back g c)

pub returns-clause-stays : goal.returns-clause-stays
returns-clause-stays g c = commit_goes _ _ _ c.slot-slot.result c.args.receipt c.turn.result (commit_turn _ _ _ c.slot-slot.result c.args.receipt c.turn.result c.slot-slot.ensures.noted c.requires.given c.turn.ensures.turn)

pub returns-clause-table : goal.returns-clause-table
returns-clause-table g c = seated c.args.self.now c.args.pass.now c.turn.new.pass c.requires.table c.turn.ensures.seat c.turn.ensures.slot (returns-clause-stays g c).keeps.slot
