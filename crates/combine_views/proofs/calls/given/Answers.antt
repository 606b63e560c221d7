use Rattle.std.proofs.Common.{◌≡◌, Option, Some, None, ap, ◌∙◌}
use Rattle.std.specs.Prelude.{IfSome}
use Rattle.beam_values.specs.declared.element.Element.{Element}
use Rattle.beam_values.specs.declared.plan.Args.{Args}
use Rattle.beam_values.specs.declared.plan.FnKind.{FnKind}
use Rattle.beam_values.specs.declared.plan.FnKind.TheVariants.{Words}
use Rattle.beam_model.specs.Functions.{emits}
use Rattle.combine_views.specs.Seen.{element_seen}
use Rattle.combine_views.specs.Told.{elements_told}
use Rattle.combine_views.specs.declared.told.Told.{Told}
use Rattle.combine_views.proofs.calls.given.Goals as goal

of_words : (e : Element) (work : FnKind) (args : Args) (told : Option Told) → work ≡ Words → IfSome told (λ told. (args : Args) → emits Words args e ≡ Some (elements_told told))
    → IfSome told (λ told. emits work args e ≡ Some (elements_told told))
of_words e work args None is gives = tt
of_words e work args (Some told) is gives = ap (λ (w : FnKind). emits w args e) is ∙ gives args

pub returns-in-Words : goal.returns-in-Words
returns-in-Words c = of_words (element_seen c.args.seen.now) c.args.work c.args.args.now c.words_given.result c.in-Words.is c.words_given.ensures
