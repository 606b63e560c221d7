use Rattle.std.proofs.Common.{sym, refl, ◌∙◌, ◌≡◌, subst}
use Rattle.std.specs.Prelude.{Some, IsSome}
use Rattle.turn_desk.proofs.Told.{ends_with}
use Rattle.turn_desk.proofs.Stages.{idle_is}
use Rattle.turn_desk.proofs.desk.Desk.close.Goals as goal

-- no pass is in turn, so the slot has the value
pub into_value-value-requires : goal.into_value-value-requires
into_value-value-requires g c =
    let seat = c.args.pass.seat in
    let end = ends_with g.V.Held.fits c.args.self.table.shared.key.value seat.id seat.me.0 _ _ c.take.result c.close_with-closed.ensures.values.2 (idle_is seat.me.0.stage c.args.pass.idle) c.requires.all c.take.ensures.value in
    subst IsSome (sym end.1) refl

pub returns-clause-fits : goal.returns-clause-fits
returns-clause-fits g c =
    let seat = c.args.pass.seat in
    let end = ends_with g.V.Held.fits c.args.self.table.shared.key.value seat.id seat.me.0 _ _ c.take.result c.close_with-closed.ensures.values.2 (idle_is seat.me.0.stage c.args.pass.idle) c.requires.all c.take.ensures.value in
    let value : Some end.0 ≡ Some c.into_value-value.result = sym end.1 ∙ c.into_value-value.ensures in
    subst (λ x. g.V.Held.fits x c.args.self.table.shared.key.value seat.me.0.note) (cc) end.2

pub returns-clause-sound : goal.returns-clause-sound
returns-clause-sound g c =
    let seat = c.args.pass.seat in
    (ends_with g.V.Held.fits c.args.self.table.shared.key.value seat.id seat.me.0 _ _ c.take.result c.close_with-closed.ensures.values.2 (idle_is seat.me.0.stage c.args.pass.idle) c.requires.all c.take.ensures.value).3
