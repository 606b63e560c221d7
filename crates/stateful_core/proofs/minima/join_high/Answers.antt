use Rattle.std.proofs.Common.{arith, ap, length, ◌∷◌, []}
use Rattle.std.proofs.lemmas.List.{length-append}
use Rattle.stateful_core.proofs.LowRuns.{joined_all, joining_more}
use Rattle.stateful_core.proofs.minima.join_high.Goals as goal

pub loop-last-preserved : goal.loop-last-preserved
loop-last-preserved c =
    let inv = c.loop-last.invariant in
    let popped = c.in-Some.ensures.popped in
    record {
      joining = joining_more c.args.hold c.args.runs.now.items c.loop-last.runs.items c.pop_high.new.runs.items c.in-Some.last c.loop-last.count popped.0 popped.1 inv.joining;
      len = omega (arith, inv.len, ap length popped.0, length-append c.pop_high.new.runs.items (c.in-Some.last ∷ []));
      capacity = omega (arith, inv.capacity, c.in-Some.ensures.capacity);
    }

pub returns-clause-joined : goal.returns-clause-joined
returns-clause-joined c =
    let popped = c.in_default.ensures.popped in
    joined_all c.args.hold c.args.runs.now.items c.loop-last.runs.items c.pop_high.new.runs.items c.loop-last.count popped.0 popped.1 c.loop-last.invariant.joining
