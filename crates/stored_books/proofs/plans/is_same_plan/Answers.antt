use Rattle.std.proofs.Common.{◌≡◌, sym, ap, ◌∙◌}
use Rattle.beam_values.specs.Spelling.{spelling}
use Rattle.beam_values.specs.declared.plan.Plan.{Plan}
use Rattle.value_forms.specs.Plans.{plan_form}
use Rattle.stored_books.proofs.SamePlans.{same_plan}
use Rattle.stored_books.proofs.plans.is_same_plan.Goals as goal

pub returns : goal.returns
returns c =
    let a = c.args.a.now in
    let b = c.args.b.now in
    let first : c.as_slice.result.now ≡ spelling (plan_form.to a) = c.as_slice.ensures ∙ c.in_ok-first.ensures.spelling in
    let second : c.as_slice-2.result.now ≡ spelling (plan_form.to b) = c.as_slice-2.ensures ∙ c.in_ok-second.ensures.spelling in (
      λ yes. same_plan a b c.in_ok-first.ensures.fits c.in_ok-second.ensures.fits (sym first ∙ c.is_same.ensures.0 yes ∙ second),
      λ same. c.is_same.ensures.1 (first ∙ ap (λ (p : Plan). spelling (plan_form.to p)) same ∙ sym second),
    )
