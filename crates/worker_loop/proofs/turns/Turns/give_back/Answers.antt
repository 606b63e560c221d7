use Rattle.book_core.specs.Steps.{Fail, Spent}
use Rattle.worker_table.specs.Passes.{note_of_pass, setting_of, slot_of}
use Rattle.worker_loop.proofs.Rounds.{stepped_at}
use Rattle.worker_loop.proofs.turns.Turns.give_back.Goals as goal

pub returns-in-Spent-clause-end : goal.returns-in-Spent-clause-end
returns-in-Spent-clause-end g c = (
  c.in-Spent.ensures.told.ending,
  c.args.at,
  c.args.cause,
  c.in-Spent._note,
  stepped_at (setting_of c.args.self.now.table.now) (note_of_pass c.args.pass.now) (note_of_pass c.fail.new.pass) (slot_of c.args.pass.now) (Fail c.args.at c.args.cause) (Spent c.in-Spent._note)
      c.in-Spent.ensures.turn c.in-Spent.ensures.told.slot,
)
