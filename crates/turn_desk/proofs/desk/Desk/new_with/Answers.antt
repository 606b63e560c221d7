use Rattle.std.proofs.Common.{refl}
use Rattle.std.specs.Prelude.{Some}
use Rattle.turn_desk.proofs.Told.{opens_with}
use Rattle.turn_desk.proofs.desk.Desk.new_with.Goals as goal

pub new-requires : goal.new-requires
new-requires g c =
    let H = g.V.Held in
    opens_with H.fits c.args.constant.value H.opening c.args.value (record { value = Some c.args.value; note = c.of.result }) _ _ c.in_ok-push.ensures.items c.new-slots.ensures.items refl
    c.requires
