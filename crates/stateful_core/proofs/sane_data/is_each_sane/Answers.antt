use Rattle.std.proofs.Common.{refl, subst}
use Rattle.std.specs.List.{All}
use Rattle.std.proofs.lemmas.List.{take_all}
use Rattle.std.proofs.lemmas.List.Elements.{All-more}
use Rattle.stateful_core.specs.SaneData.{IsKeySane}
use Rattle.stateful_core.proofs.sane_data.is_each_sane.Goals as goal

pub loop-key-preserved : goal.loop-key-preserved
loop-key-preserved c =
    All-more (IsKeySane c.args.plan.now) c.args.keys.now c.loop-key.key-index c.key-item.result c.loop-key-test.true c.loop-key.invariant
    (subst (IsKeySane c.args.plan.now) c.key-item.is (c.is_sane.ensures.0 c.if-not-is_sane.false))

pub returns : goal.returns
returns c = (
  λ e. subst (All (IsKeySane c.args.plan.now)) (take_all c.loop-key.key-index c.args.keys.now c.loop-key-test.false) c.loop-key.invariant,
  λ h. refl,
)
