-- The functions of sequences fold the parts of a pane.
use Rattle.std.proofs.Common.{◌≡◌, Bool, true, List, Option, Some, None, refl, ap, ◌∙◌}
use Rattle.std.proofs.lemmas.Bool.{false≢true}
use Rattle.std.specs.Option.{option_map, option_and_then}
use Rattle.beam_values.specs.declared.element.Element.{Element}
use Rattle.beam_values.specs.declared.plan.Args.{Args}
use Rattle.beam_values.specs.declared.plan.FnKind.{FnKind}
use Rattle.beam_values.specs.declared.plan.FnKind.TheVariants.{SumSeq, CountSeq, MaxSeq}
use Rattle.beam_values.specs.declared.value.Value.{Value}
use Rattle.beam_values.specs.declared.value.Value.TheViews.{out-roll-Value}
use Rattle.beam_model.specs.Functions.{emits, fold_of, folds, from_pair, on_part, one, sum_in, count_in, greatest_in}
use Rattle.beam_model.specs.Values.{KeyedValue, as_pair, pair, seq}

-- what a function of the part of a pair gives of a pair
given : (change : Value → Option Value) (e : Element) (key part : Value) → e.value ≡ pair key part
    → from_pair e (λ keyed. option_map (one e) (on_part change keyed)) ≡ option_map (λ v. one e (pair key v)) (change part)
given change e key part is =
    let found : as_pair e.value ≡ Some (record { key = key; part = part }) = ap as_pair is ∙ pairs in
    ap (option_and_then (λ keyed. option_map (one e) (on_part change keyed))) found ∙ by (change part)
  where
    pairs : as_pair (pair key part) ≡ Some (record { key = key; part = part })
    pairs = simp out-roll-Value refl

    by : (found : Option Value) → option_map (one e) (option_map (pair key) found) ≡ option_map (λ v. one e (pair key v)) found
    by None = refl
    by (Some v) = refl

pub folded : (kind : FnKind) (args : Args) (e : Element) (key : Value) (parts : List Value) → folds kind ≡ true → e.value ≡ pair key (seq parts)
    → emits kind args e ≡ option_map (λ v. one e (pair key v)) (fold_of kind parts)
folded SumSeq args e key parts some is = given sum_in e key (seq parts) is
folded CountSeq args e key parts some is = given count_in e key (seq parts) is
folded MaxSeq args e key parts some is = given greatest_in e key (seq parts) is
folded _ args e key parts some is = absurd (false≢true some)
