use Rattle.std.proofs.Common.{refl}
use Rattle.bundle_work.proofs.Answered.{kit_same}
use Rattle.combine_plan.proofs.Seats.{each_same}
use Rattle.combine_plan.proofs.plan.combine_plan.Goals as goal

pub returns-in_err-shape_refusal-clause-kept : goal.returns-in_err-shape_refusal-clause-kept
returns-in_err-shape_refusal-clause-kept g c =
    each_same _ (λ kit. (refl, kit_same g.F.Shelf.faults g.F.Shelf.strict g.S.Store.faults g.S.Store.files g.S.Store.opened kit.shelf kit.store)) c.args.kits.now

pub returns-in-Some-clause-kept : goal.returns-in-Some-clause-kept
returns-in-Some-clause-kept g c =
    each_same _ (λ kit. (refl, kit_same g.F.Shelf.faults g.F.Shelf.strict g.S.Store.faults g.S.Store.files g.S.Store.opened kit.shelf kit.store)) c.args.kits.now
