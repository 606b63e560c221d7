use Rattle.std.proofs.Common.{rules, sym, ap, subst, arith}
use Rattle.turn_desk.specs.Plays.{Knows, HasDrawn, IsInTurn}
use Rattle.turn_desk.proofs.Told.{found_turn}
use Rattle.turn_desk.proofs.Steps.{serves}
use Rattle.turn_desk.proofs.desk.Desk.wait.Goals.{in-None, in-Some+then-serving-ticket}
use Rattle.turn_desk.proofs.desk.Desk.wait.Goals as goal

pub load-serving-requires : goal.load-serving-requires
load-serving-requires g c =
    let counts = c.args.self.now.counts in let m = c.loop.seat.me in
    let drawn = subst (HasDrawn c.args.ticket) (sym c.loop.invariant.1) c.requires.drawn in (
      search rules,
      omega arith,
      serves g.V.Held.fits c.args.self.now.table.shared.key.value _ c.loop.seat.id drawn.0 m drawn.2 drawn.3,
    )

-- the loop ends where the ticket was found
pub returns-clause-turn : goal.returns-clause-turn
returns-clause-turn g c = elim c.match-next.branch [
  | in-None w ↦ absurd (search rules)
  | in-Some+then-serving-ticket w ↦ (let turn = found_turn g.V.Held.fits c.args.seat.now.me c.loop.seat.me w.load-serving.new.seat.me c.args.ticket w.load-serving.result c.requires.drawn c.loop.invariant.1 w.load-serving.ensures.2 w.if-serving-ticket.true in
      subst (λ (z : Knows _ _ _). IsInTurn g.V.Held.fits c.args.seat.now.me z) (sym (ap (λ s. s.me) w.seat-is)) turn)
]
