use Rattle.std.proofs.Common.{◌≤◌, List, length, sym, ap, subst, ◌∙◌}
use Rattle.beam_values.specs.Checked.{are_bars_allowed}
use Rattle.beam_values.specs.Firing.{met}
use Rattle.beam_values.specs.declared.plan.Bar.{Bar}
use Rattle.trigger_algebra.specs.Refusing.{leaves}
use Rattle.trigger_algebra.proofs.NormalForms.{length-normal, normal_meets, normal_allowed}
use Rattle.trigger_algebra.proofs.normal_form.normal.Goals as goal

pub returns-clause-few : goal.returns-clause-few
returns-clause-few c = subst (λ (bars : List Bar). length bars ≤ leaves c.args.when.now) (sym c.in_ok-stairs.ensures.bars) (length-normal c.args.when.now)

pub returns-clause-held : goal.returns-clause-held
returns-clause-held c unseen past some =
    ap (λ (bars : List Bar). met bars unseen past) c.in_ok-stairs.ensures.bars ∙ normal_meets c.args.when.now unseen past (sym c.in_default.ensures) some

pub returns-clause-stairs : goal.returns-clause-stairs
returns-clause-stairs c least most numbers =
    ap (are_bars_allowed least most) c.in_ok-stairs.ensures.bars ∙ normal_allowed least most c.args.when.now c.in_ok-stairs.ensures.words numbers
