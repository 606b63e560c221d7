use Rattle.std.proofs.Common.{◌+◌, ◌++◌, ◌∷◌, [], Some, ap, rules, sym, subst, ◌∙◌}
use mir.Syntax.{w64}
use mir.Val.{SFits}
use Rattle.std.proofs.lemmas.Int.{to_z-of_z}
use Rattle.combine_lift.specs.Standing.{IsMaxOf, greater_of}
use Rattle.combine_lift.specs.Views.{view_value}
use Rattle.combine_lift.proofs.OneMore.{max_added}
use Rattle.combine_lift.proofs.max_of.MaxOfCombiner.add.Goals as goal

pub returns-clause-added : goal.returns-clause-added
returns-clause-added c = λ parts stands.
    let fits : SFits w64 c.in-Some.number = search rules in
    let same = c.greater.ensures ∙ ap (λ n. greater_of c.args.acc.now.greatest (Some n)) (to_z-of_z w64 c.in-Some.number fits) in
    subst (λ greatest. IsMaxOf greatest (c.args.acc.now.count + 1) (parts ++ (view_value c.args.part) ∷ [])) (sym same)
    (max_added c.args.acc.now.greatest c.args.acc.now.count parts (view_value c.args.part) c.in-Some.number (sym c.in-Some.ensures) stands)
