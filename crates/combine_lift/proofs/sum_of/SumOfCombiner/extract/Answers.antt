use Rattle.std.proofs.Common.{Some, ap, rules, sym, ◌∙◌}
use Rattle.std.specs.Option.{option_map}
use mir.Syntax.{w64, w128}
use mir.Val.{SFits}
use Rattle.std.proofs.lemmas.Int.{to_z-of_z}
use Rattle.beam_values.specs.declared.value.Value.TheVariants.{Int}
use Rattle.beam_values.specs.declared.value.Value.TheViews.{rolls-Int}
use Rattle.beam_model.specs.Functions.{in_word}
use Rattle.beam_model.specs.Values.{int}
use Rattle.combine_lift.proofs.Folding.{sum_folded}
use Rattle.combine_lift.proofs.sum_of.SumOfCombiner.extract.Goals as goal

pub returns-in-Some : goal.returns-in-Some
returns-in-Some c = λ parts stands.
    let fits : SFits w64 c.in-Some.sum = search rules in
    let wide : SFits w128 c.args.acc.now.sum = search rules in
    let folded = ap (λ n. option_map int (in_word n)) (to_z-of_z w128 c.args.acc.now.sum wide) ∙ sym (sum_folded c.args.acc.now.sum c.args.acc.now.count parts stands) in
    ap (λ n. Some (Int n)) (to_z-of_z w64 c.in-Some.sum fits) ∙ ap Some (sym (rolls-Int c.in-Some.sum)) ∙ ap (option_map int) c.in-Some.ensures ∙ folded

pub returns-in-None : goal.returns-in-None
returns-in-None c = λ parts stands.
    let wide : SFits w128 c.args.acc.now.sum = search rules in
    ap (option_map int) c.in-None.ensures ∙ ap (λ n. option_map int (in_word n)) (to_z-of_z w128 c.args.acc.now.sum wide)
    ∙ sym (sum_folded c.args.acc.now.sum c.args.acc.now.count parts stands)
