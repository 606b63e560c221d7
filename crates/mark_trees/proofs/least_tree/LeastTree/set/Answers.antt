use Rattle.std.proofs.Common.{List, ap, arith, length, subst, sym, ◌∙◌}
use Rattle.std.specs.Prelude.{slice_set}
use Rattle.mark_trees.specs.Halves.{AreLevels, lowest}
use Rattle.mark_trees.specs.Levels.{lists_of}
use Rattle.mark_trees.specs.declared.twin_marks.TwinMarks.{TwinMarks}
use Rattle.mark_trees.proofs.Halving.{lowest_set, set_levels}
use Rattle.mark_trees.proofs.PutUp.{room_below}
use Rattle.mark_trees.proofs.least_tree.LeastTree.set.Goals as goal

pub put_up-requires-clause-room : goal.put_up-requires-clause-room
put_up-requires-clause-room c = room_below c.self.inside.levels.items c.args.at c.self.invariant (omega (arith, c.requires, ap length c.self.view_is))

pub invariant_of-self : goal.invariant_of-self
invariant_of-self c =
    subst AreLevels (sym c.put_up.ensures) (set_levels (lists_of c.self.inside.levels.items) c.args.at c.args.marks c.self.invariant (omega (arith, c.requires, ap length c.self.view_is)))

pub returns : goal.returns
returns c =
    ap lowest c.put_up.ensures ∙ lowest_set (lists_of c.self.inside.levels.items) c.args.at c.args.marks (omega (arith, c.requires, ap length c.self.view_is))
    ∙ ap (λ (l : List TwinMarks). slice_set l c.args.at c.args.marks) c.self.view_is
