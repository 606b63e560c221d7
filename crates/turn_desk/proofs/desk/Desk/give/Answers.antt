use Rattle.std.proofs.Common.{rules, arith, refl, sym, ap, ◌∙◌, subst}
use Rattle.std.specs.Prelude.{Some}
use Rattle.turn_desk.specs.Standing.{IsIdle}
use Rattle.turn_desk.proofs.Told.{may_end, out_slot, gave}
use Rattle.turn_desk.proofs.desk.Desk.give.Goals as goal

pub exchange-requires : goal.exchange-requires
exchange-requires g c = let hold = c.args.turn.hold in (c.requires.desk.0, out_slot hold.seat.me hold.out hold.vacant)

pub fetch_add-ended-requires : goal.fetch_add-ended-requires
fetch_add-ended-requires g c =
    let H = g.V.Held in let hold = c.args.turn.hold in let counts = c.args.self.now.counts in (
      search rules,
      omega arith,
      may_end H.fits c.args.self.now.table.shared.key.value H.moves H.keeps_own H.keeps_others _ c.exchange.new.seat.id hold.seat.me c.exchange.new.seat.me
          (record { value = Some c.args.turn.value; note = c.noted-note.result }) hold.lent.value c.args.turn.value _ hold.taken hold.out hold.vacant c.exchange.ensures.3 refl c.noted-note.ensures c.requires.moves,
    )

pub invariant_of-result : goal.invariant_of-result
invariant_of-result g c =
    let hold = c.args.turn.hold in
    let after = gave hold.seat.me c.exchange.new.seat.me c.fetch_add-ended.new.seat.me (record { value = Some c.args.turn.value; note = c.noted-note.result }) c.fetch_add-ended.result hold.out hold.vacant c.exchange.ensures.3 c.fetch_add-ended.ensures.2 in
    record { idle = subst IsIdle (sym (ap (λ z. z.0.stage) after)) tt; empty = ap (λ z. z.1) after }

pub returns-clause-desk : goal.returns-clause-desk
returns-clause-desk g c =
    let hold = c.args.turn.hold in
    let after = gave hold.seat.me c.exchange.new.seat.me c.fetch_add-ended.new.seat.me (record { value = Some c.args.turn.value; note = c.noted-note.result }) c.fetch_add-ended.result hold.out hold.vacant c.exchange.ensures.3 c.fetch_add-ended.ensures.2 in
    (search rules, ap (λ z. z.0.constant) after ∙ c.requires.desk.1)

-- the note that stood in the slot
pub returns-clause-note : goal.returns-clause-note
returns-clause-note g c =
    let hold = c.args.turn.hold in
    let after = gave hold.seat.me c.exchange.new.seat.me c.fetch_add-ended.new.seat.me (record { value = Some c.args.turn.value; note = c.noted-note.result }) c.fetch_add-ended.result hold.out hold.vacant c.exchange.ensures.3 c.fetch_add-ended.ensures.2 in
    ap (λ z. z.0.note) after ∙ c.noted-note.ensures
