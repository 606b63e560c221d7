-- Plans of one spelling are one plan.
use Rattle.std.proofs.Common.{◌≡◌, sym, ap, ◌∙◌}
use Rattle.beam_values.specs.Spelling.{spelling}
use Rattle.beam_values.specs.declared.plan.Plan.{Plan}
use Rattle.beam_values.proofs.Storable.{values_same}
use Rattle.value_forms.specs.Plans.{plan_form}
use Rattle.value_forms.proofs.FormLaws.{some_is}
use Rattle.value_forms.proofs.PlanLaws.{plan_is_form}

pub same_plan : (a b : Plan) → plan_form.Fits a → plan_form.Fits b → spelling (plan_form.to a) ≡ spelling (plan_form.to b) → a ≡ b
same_plan a b fits fit same =
    let value = values_same (plan_form.to a) (plan_form.to b) (plan_is_form.words a fits) (plan_is_form.words b fit) same in
    some_is a b (sym (plan_is_form.again a fits) ∙ ap plan_form.of value ∙ plan_is_form.again b fit)
