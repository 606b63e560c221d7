use Rattle.std.proofs.Common.{Err, ap, w64}
use Rattle.std.proofs.lemmas.Int.{to_z-of_z}
use Rattle.trigger_algebra.specs.declared.refusal.NormalRefusal.{NormalRefusal}
use Rattle.plan_reader.proofs.TreeTurns.{no_trigger}
use Rattle.plan_reader.proofs.trees.bars_of.Goals as goal

pub returns-in-Err-Bad : goal.returns-in-Err-Bad
returns-in-Err-Bad c =
    no_trigger c.args.least c.args.most c.args.place c.args.when.now c.in-Err-Bad.field-0-0
    ((c.in-Err-Bad.ensures.bad c.in-Err-Bad.field-0-0).0 (ap (λ (refusal : NormalRefusal). Err refusal) c.in-Err-Bad.field-0-is))

pub returns-in-Ok : goal.returns-in-Ok
returns-in-Ok c = rw (to_z-of_z w64 c.args.least c.ranges.least, to_z-of_z w64 c.args.most c.ranges.most) at c.bars_within.ensures
