use Rattle.worker_table.specs.Passes.{note_of_pass, setting_of, slot_of}
use Rattle.worker_table.specs.Turns.{HasHelped}
use Rattle.worker_loop.proofs.Steps.{at_slot, looked}
use Rattle.worker_loop.proofs.turns.Turns.help.Goals as goal

pub returns-clause-turn : goal.returns-clause-turn
returns-clause-turn g c =
    let setting = setting_of c.args.self.now.table.now in
    let note = note_of_pass c.args.pass.now in
    let later = note_of_pass c.split_other-answer.new.pass in
    let slot = c.args.self.now.slot in
    let answer = c.split_other-answer.result in
    looked setting note later slot answer (at_slot (λ i. HasHelped setting note later i answer) (slot_of c.args.pass.now) slot c.requires.slot c.split_other-answer.ensures.turn)
