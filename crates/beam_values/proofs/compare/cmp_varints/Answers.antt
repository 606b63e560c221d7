use Rattle.std.proofs.Common.{◌∙◌, sym, arith}
use Rattle.beam_values.proofs.Varints.{groups_tie, first_groups_decide}
use Rattle.beam_values.proofs.compare.cmp_varints.Goals as goal
use Rattle.beam_values.proofs.compare.cmp_varints.Goals.{then-loop-a-test+then-b-ge128+else-a-b, then-loop-a-test+else-b-ge128, else-loop-a-test}

pub loop-a-preserved : goal.loop-a-preserved
loop-a-preserved c = sym (groups_tie c.loop-a.a c.loop-a.b (omega arith) (omega arith) c.if-a-b.true) ∙ c.loop-a.invariant

pub returns : goal.returns
returns c =
    c.cmp.ensures
    ∙ first_groups_decide c.loop-a.a c.loop-a.b c.first_group.result c.first_group-2.result c.first_group.ensures c.first_group-2.ensures
    (λ a b. elim c.loop-a-test.branch [
      | then-loop-a-test+then-b-ge128+else-a-b w ↦ w.if-a-b.false
      | then-loop-a-test+else-b-ge128 w ↦ absurd (omega arith)
      | else-loop-a-test w ↦ absurd (omega arith)
    ])
    ∙ c.loop-a.invariant
