use Rattle.std.proofs.Common.{◌-◌, ◌<◌, ap, arith, length, rules, sym, ◌∙◌}
use Rattle.std.proofs.lemmas.Grind.{common_steps}
use Rattle.mark_trees.specs.Halves.{first_due}
use Rattle.mark_trees.specs.Levels.{lists_of}
use Rattle.mark_trees.proofs.PutUp.{lists_sized, none_under}
use Rattle.mark_trees.proofs.least_tree.LeastTree.first_due.Goals as goal

pub returns-in_err-at : goal.returns-in_err-at
returns-in_err-at c =
    let items = c.self.inside.levels.items in
    let less : c.len.result - 1 < length items = first_of (search rules, grind (arith, common_steps)) in
    c.from_residual.ensures
    ∙ sym (
    ap (first_due c.args.bound) (sym c.self.view_is)
    ∙ none_under c.args.bound (lists_of items) (c.len.result - 1) (omega (arith, less, lists_sized items)) c.self.invariant
    (ap (first_due c.args.bound) (sym c.level_at-highest.ensures) ∙ sym c.first_among.ensures ∙ c.in_err-at.was)
    )
