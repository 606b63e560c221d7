use Rattle.std.proofs.Common.{arith, refl}
use Rattle.turn_desk.proofs.Parting.{joins}
use Rattle.turn_desk.proofs.Stages.{idle_is}
use Rattle.turn_desk.proofs.desk.Desk.join_pass.Goals as goal

pub join_seat-requires : goal.join_seat-requires
join_seat-requires g c =
    let H = g.V.Held in let pass = c.args.pass.now in let other = c.args.other in let constant = c.args.self.now.table.shared.key.value in
    let m = pass.seat.me.0.note in let n = other.seat.me.0.note in let counts = c.args.self.now.counts in (
      c.requires.desk.0.0,
      c.requires.desk.1.0,
      other.empty,
      omega arith,
      joins H.fits constant pass.seat.id other.seat.id pass.seat.me.0 other.seat.me.0 (H.joined m n) (idle_is pass.seat.me.0.stage pass.idle) (idle_is other.seat.me.0.stage other.idle)
          (λ x sound sound' apart fit fit'. H.join_fits constant x m n sound sound' apart fit fit') _ refl,
    )
