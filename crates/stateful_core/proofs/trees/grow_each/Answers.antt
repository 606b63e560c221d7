use Rattle.std.proofs.Common.{arith, rules, ◌<◌, ◌≤◌, ◌∙◌, length}
use Rattle.stateful_core.proofs.TreeSteps.{all_grown, grown_more, grown_none, in_longer, longer_then}
use Rattle.stateful_core.proofs.trees.grow_each.Goals as goal

pub loop-k-init : goal.loop-k-init
loop-k-init c = record { grown = grown_none c.args.trees.now.items c.args.node c.args.at; len = search rules }

pub loop-k-preserved : goal.loop-k-preserved
loop-k-preserved c =
    let less : c.loop-k.k < length c.loop-k.trees.items = omega (arith, c.loop-k-test.true, c.loop-k.invariant.len) in
    record {
      grown = grown_more c.args.trees.now.items c.loop-k.trees.items c.grow_in.new.trees.items c.args.node c.args.at c.loop-k.k less c.grow_in.ensures.set c.in_ok-grow_in.ensures.ok
          c.loop-k.invariant.grown;
      len = c.grow_in.ensures.len ∙ c.loop-k.invariant.len;
    }

pub returns-in_err-grow_in-clause-longer : goal.returns-in_err-grow_in-clause-longer
returns-in_err-grow_in-clause-longer c =
    let less : c.loop-k.k < length c.loop-k.trees.items = omega (arith, c.loop-k-test.true, c.loop-k.invariant.len) in
    longer_then c.args.trees.now.items c.loop-k.trees.items c.grow_in.new.trees.items c.loop-k.invariant.grown.longer
    (in_longer c.loop-k.trees.items c.grow_in.new.trees.items c.loop-k.k less c.grow_in.ensures.set)

pub returns-clause-ok : goal.returns-clause-ok
returns-clause-ok c =
    let past : length c.loop-k.trees.items ≤ c.loop-k.k = omega (arith, c.loop-k-test.false, c.loop-k.invariant.len) in
    all_grown c.args.trees.now.items c.loop-k.trees.items c.args.node c.args.at c.loop-k.k past c.loop-k.invariant.grown
