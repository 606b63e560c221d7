use Rattle.std.proofs.Common.{arith}
use Rattle.turn_desk.proofs.Parting.{splits}
use Rattle.turn_desk.proofs.Stages.{idle_is}
use Rattle.turn_desk.proofs.desk.Desk.split_pass.Goals as goal

pub split_seat-split-requires : goal.split_seat-split-requires
split_seat-split-requires g c =
    let H = g.V.Held in let pass = c.args.pass.now in let constant = c.args.self.now.table.shared.key.value in let note = pass.seat.me.0.note in
    let counts = c.args.self.now.counts in (
      c.requires.desk.0,
      omega arith,
      splits H.fits constant pass.seat.id pass.seat.me.0 (H.kept note) (H.given note) (idle_is pass.seat.me.0.stage pass.idle) c.requires.free
          (λ x sound fit. H.parts_fit constant x note sound c.requires.free fit),
    )
