use Rattle.std.proofs.Common.{refl}
use Rattle.group_cells.proofs.DueKeys.{moments_noted}
use Rattle.group_cells.proofs.groups.draft.Tracked.push.Goals as goal

pub returns-clause-kept : goal.returns-clause-kept
returns-clause-kept c =
    moments_noted c.args.self.now.due (record { unseen = c.push_reserved-3.new.self; moments = c.args.self.now.due.moments; moved = c.args.self.now.due.moved }) refl (λ q there. there)
