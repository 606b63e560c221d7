use Rattle.std.proofs.Common.{◌≡◌, false, arith, sym, ◌∙◌, subst}
use Rattle.std.proofs.lemmas.List.Elements.{All-more}
use Rattle.mark_trees.specs.Halves.{is_due}
use Rattle.mark_trees.specs.declared.twin_marks.TwinMarks.{TwinMarks}
use Rattle.mark_trees.proofs.Halving.{first_here, first_nowhere}
use Rattle.mark_trees.proofs.least_tree.first_among.Goals as goal

pub returns-then-is_due : goal.returns-then-is_due
returns-then-is_due c =
    sym (first_here c.args.bound c.args.level.now c.loop-at.at c.index-level-at.result (omega (arith, c.loop-at-test.true)) c.index-level-at.is (sym c.is_due.ensures ∙ c.if-is_due.true) c.loop-at.invariant)

pub loop-at-preserved : goal.loop-at-preserved
loop-at-preserved c =
    All-more (λ (m : TwinMarks). is_due c.args.bound m ≡ false) c.args.level.now c.loop-at.at c.index-level-at.result (omega (arith, c.loop-at-test.true)) c.loop-at.invariant
    (subst (λ (m : TwinMarks). is_due c.args.bound m ≡ false) c.index-level-at.is (sym c.is_due.ensures ∙ c.if-is_due.false))

pub returns : goal.returns
returns c = sym (first_nowhere c.args.bound c.args.level.now c.loop-at.at (omega (arith, c.loop-at-test.false)) c.loop-at.invariant)
