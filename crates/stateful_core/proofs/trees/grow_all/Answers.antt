use Rattle.std.proofs.Common.{arith, ◌<◌, ◌≤◌, length, subst, sym}
use Rattle.stateful_core.specs.Trees.{HasPlace}
use Rattle.stateful_core.specs.declared.slot.Slot.{Slot}
use Rattle.stateful_core.proofs.TreeSteps.{places_all, places_more}
use Rattle.stateful_core.proofs.trees.grow_all.Goals as goal

pub loop-k-preserved : goal.loop-k-preserved
loop-k-preserved c =
    let inv = c.loop-k.invariant in
    let less : c.loop-k.k < length c.args.fresh.now = omega (arith, c.loop-k-test.true) in
    record {
      kept = λ hole cells h. c.grow.ensures.kept hole cells (inv.kept hole cells h);
      grown = places_more c.loop-k.trees.items c.grow.new.trees.items c.args.fresh.now c.args.first c.loop-k.k c.in_ok-number.number c.index-fresh-k.result less c.index-fresh-k.is c.in_ok-number.ensures
          (subst (λ (s : Slot). HasPlace c.grow.new.trees.items s.node c.in_ok-number.number) (sym c.index-fresh-k.is) c.in_ok-grow.ensures.ok) c.grow.ensures.others inv.grown;
    }

pub returns-clause-ok : goal.returns-clause-ok
returns-clause-ok c =
    let past : length c.args.fresh.now ≤ c.loop-k.k = omega (arith, c.loop-k-test.false) in
    places_all c.loop-k.trees.items c.args.fresh.now c.args.first c.loop-k.k past c.loop-k.invariant.grown
