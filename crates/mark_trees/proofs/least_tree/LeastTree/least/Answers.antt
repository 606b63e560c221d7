use Rattle.std.proofs.Common.{List, Vec, Global, ◌-◌, ap, length, sym, ◌∙◌}
use Rattle.std.specs.Prelude.{slice_get}
use Rattle.mark_trees.specs.Halves.{least_of}
use Rattle.mark_trees.specs.declared.twin_marks.TwinMarks.{TwinMarks}
use Rattle.mark_trees.proofs.Halving.{top_least}
use Rattle.mark_trees.proofs.least_tree.LeastTree.least.Goals as goal

pub returns-in-Some : goal.returns-in-Some
returns-in-Some c =
    c.least_among.ensures ∙ ap least_of c.as_slice.ensures.value
    ∙ top_least c.self.inside.levels.items c.in-Some.highest.now
    (ap (λ (l : List (Vec TwinMarks Global)). slice_get l (length l - 1)) (sym c.deref.ensures.value) ∙ sym c.in-Some.ensures.value) c.self.invariant
    ∙ ap least_of c.self.view_is
