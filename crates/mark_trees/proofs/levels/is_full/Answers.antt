use Rattle.std.proofs.Common.{◌≡◌, ◌-◌, arith, ap, sym, ◌∙◌}
use Rattle.std.specs.Prelude.{nat_lt}
use Rattle.mark_trees.specs.Halves.{halvings}
use Rattle.mark_trees.proofs.Halving.{halvings_step}
use Rattle.mark_trees.proofs.levels.is_full.Goals as goal

pub loop-level-preserved : goal.loop-level-preserved
loop-level-preserved c = sym (halvings_step c.loop-level.at c.args.levels c.loop-level._level (omega (arith, c.loop-level-test.true))) ∙ c.loop-level.invariant

pub returns : goal.returns
returns c =
    let none : c.args.levels - c.loop-level._level ≡ 0 = omega (arith, c.loop-level-test.false) in
    ap (nat_lt 0) (sym (ap (halvings c.loop-level.at) none) ∙ c.loop-level.invariant)
