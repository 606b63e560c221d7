use Rattle.std.proofs.Common.{List, Vec, Global, ◌-◌, ap, get_or, length, ◌∙◌}
use Rattle.mark_trees.specs.declared.twin_marks.TwinMarks.{TwinMarks}
use Rattle.mark_trees.proofs.Halving.{raised}
use Rattle.mark_trees.proofs.levels.raise.Goals as goal

pub returns-clause-levels : goal.returns-clause-levels
returns-clause-levels c =
    (raised c.args.levels.now.items c.push.new.self.items c.in_ok-highest.highest c.args.at c.requires.some c.in_ok-push.ensures.items
    (λ d. c.in_ok-highest.ensures d ∙ ap (λ (l : List (Vec TwinMarks Global)). (get_or l (length l - 1) d).items) c.as_slice.ensures.value) c.requires.levels c.requires.at).levels_are

pub returns-clause-ok : goal.returns-clause-ok
returns-clause-ok c =
    (raised c.args.levels.now.items c.push.new.self.items c.in_ok-highest.highest c.args.at c.requires.some c.in_ok-push.ensures.items
    (λ d. c.in_ok-highest.ensures d ∙ ap (λ (l : List (Vec TwinMarks Global)). (get_or l (length l - 1) d).items) c.as_slice.ensures.value) c.requires.levels c.requires.at).top
