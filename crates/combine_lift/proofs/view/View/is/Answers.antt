use Rattle.std.proofs.Common.{ap, refl, rules, sym, ◌∙◌}
use Rattle.std.specs.Ordering.{is_eq}
use Rattle.std.specs.Str.{bytes_eq}
use Rattle.std.proofs.lemmas.Map.Text.{is_eq-slice_cmp}
use Rattle.std.proofs.lemmas.Slice.Eq.{bytes_eq-Decides}
use Rattle.beam_values.specs.Spelling.{spelling}
use Rattle.beam_values.specs.declared.value.Value.{Value}
use Rattle.combine_lift.specs.Views.{view_value}
use Rattle.combine_lift.proofs.view.View.is.Goals as goal

pub returns-in-Whole : goal.returns-in-Whole
returns-in-Whole c = (
  search rules,
  λ same.
      c.is_eq.ensures ∙ ap is_eq c.cmp_values.ensures.order ∙ is_eq-slice_cmp (spelling c.in-Whole.other.now) (spelling c.args.value.now)
      ∙ ap (λ (v : Value). bytes_eq (spelling v) (spelling c.args.value.now)) (sym (ap view_value c.in-Whole.is) ∙ same) ∙ (bytes_eq-Decides (spelling c.args.value.now) (spelling c.args.value.now)).1 refl,
)
