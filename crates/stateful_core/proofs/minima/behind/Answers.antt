use Rattle.std.proofs.Common.{arith, sym, ◌∙◌}
use Rattle.stateful_core.proofs.LowRuns.{run_here, run_past}
use Rattle.stateful_core.proofs.minima.behind.Goals as goal

pub returns-then-left-run : goal.returns-then-left-run
returns-then-left-run c =
    sym (c.loop-k.invariant ∙ run_here c.args.runs.now.items c.loop-k.k c.loop-k.left c.index-run.result.now (omega (arith, c.loop-k-test.true, c.len-k-end.ensures)) c.index-run.ensures c.if-left-run.true)

pub loop-k-preserved : goal.loop-k-preserved
loop-k-preserved c =
    c.loop-k.invariant ∙ run_past c.args.runs.now.items c.loop-k.k c.loop-k.left c.index-run.result.now (omega (arith, c.loop-k-test.true, c.len-k-end.ensures)) c.index-run.ensures c.if-left-run.false
