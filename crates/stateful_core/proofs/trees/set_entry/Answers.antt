use Rattle.std.proofs.Common.{arith, rules, ◌<◌, ◌≤◌, ◌∙◌, length}
use Rattle.stateful_core.proofs.TreeSteps.{renewed_done, renewed_more, renewed_none}
use Rattle.stateful_core.proofs.trees.set_entry.Goals as goal

pub loop-k-init : goal.loop-k-init
loop-k-init c = record { renewed = renewed_none c.args.trees.now.items c.args.node c.args.at c.args.entry.now; len = search rules }

pub loop-k-preserved : goal.loop-k-preserved
loop-k-preserved c =
    let less : c.loop-k.k < length c.loop-k.trees.items = omega (arith, c.loop-k-test.true, c.loop-k.invariant.len) in
    record {
      renewed = renewed_more c.args.trees.now.items c.loop-k.trees.items c.set_in.new.trees.items c.args.node c.args.at c.args.entry.now c.loop-k.k less c.set_in.ensures.is
          c.loop-k.invariant.renewed;
      len = c.set_in.ensures.len ∙ c.loop-k.invariant.len;
    }

pub returns : goal.returns
returns c =
    let past : length c.loop-k.trees.items ≤ c.loop-k.k = omega (arith, c.loop-k-test.false, c.loop-k.invariant.len) in
    renewed_done c.args.trees.now.items c.loop-k.trees.items c.args.node c.args.at c.args.entry.now c.loop-k.k past c.loop-k.invariant.renewed
