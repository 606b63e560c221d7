use Rattle.std.proofs.Common.{rules, arith}
use Rattle.turn_desk.proofs.Told.{has_slot}
use Rattle.turn_desk.proofs.Stages.{idle_is}
use Rattle.turn_desk.proofs.Steps.{draws}
use Rattle.turn_desk.proofs.desk.Desk.take.Goals as goal

pub fetch_add-ticket-requires : goal.fetch_add-ticket-requires
fetch_add-ticket-requires g c =
    let counts = c.args.self.now.counts in let seat = c.args.pass.seat in
    (c.requires.0, omega arith, draws g.V.Held.fits c.args.self.now.table.shared.key.value _ seat.id seat.me (idle_is seat.me.0.stage c.args.pass.idle))

pub exchange-requires : goal.exchange-requires
exchange-requires g c = (search rules, has_slot g.V.Held.fits c.fetch_add-ticket.new.seat.me c.wait-pause.new.seat.me c.wait-pause.ensures.turn)
