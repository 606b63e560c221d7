use Rattle.std.proofs.Common.{arith, ap, length}
use Rattle.group_cells.proofs.FiredFew.{parted}
use Rattle.group_cells.proofs.plain.keys.place_next.Goals as goal

pub returns-clause-grown : goal.returns-clause-grown
returns-clause-grown c =
    omega (arith, parted c.args.place.node c.args.place.key c.args.left, ap length c.in_ok-split.ensures.own, ap length c.in_ok-split.ensures.others, c.in_ok-place_key.ensures.grown)
