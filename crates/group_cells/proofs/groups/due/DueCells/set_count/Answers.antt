use Rattle.std.specs.Vec.{with_item}
use Rattle.std.proofs.Common.{refl}
use Rattle.group_cells.proofs.DueKeys.{moments_noted}
use Rattle.group_cells.proofs.groups.due.DueCells.set_count.Goals as goal

pub returns-clause-kept : goal.returns-clause-kept
returns-clause-kept c =
    moments_noted c.args.self.now (record { unseen = with_item c.args.self.now.unseen c.args.place c.args.count; moments = c.args.self.now.moments; moved = c.args.self.now.moved }) refl (λ q there. there)
