use Rattle.std.proofs.Common.{sym, ◌∙◌}
use Rattle.stateful_core.proofs.DataSteps.{keys_sane, told_sane}
use Rattle.stateful_core.proofs.sane_data.are_sane_keys.Goals as goal

pub returns-then-not-is_each_sane : goal.returns-then-not-is_each_sane
returns-then-not-is_each_sane c = (
  λ e. absurd (cc),
  λ h. sym c.if-not-is_each_sane.true ∙ c.is_each_sane.ensures.1 (keys_sane c.args.plan.now c.args.keys.now h).0,
)

pub returns : goal.returns
returns c = told_sane c.args.plan.now c.args.keys.now c.are_once.result (c.is_each_sane.ensures.0 c.if-not-is_each_sane.false) c.are_once.ensures
