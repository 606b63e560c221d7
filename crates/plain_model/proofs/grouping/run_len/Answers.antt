use Rattle.std.proofs.Common.{◌∙◌, sym, arith}
use Rattle.plain_model.proofs.Runs.{run_ends, run_goes_on, run_is_all}
use Rattle.plain_model.proofs.grouping.run_len.Goals as goal

pub returns-then-ne : goal.returns-then-ne
returns-then-ne c =
    run_ends c.args.first.now c.args.elements.now c.loop-i.i c.index-elements-i.result c.cmp_window_keys.result c.loop-i-test.true c.index-elements-i.is c.cmp_window_keys.ensures (sym c.if-ne.true ∙ c.ne.ensures) c.loop-i.invariant

pub loop-i-preserved : goal.loop-i-preserved
loop-i-preserved c =
    run_goes_on c.args.first.now c.args.elements.now c.loop-i.i c.index-elements-i.result c.cmp_window_keys.result c.loop-i-test.true c.index-elements-i.is c.cmp_window_keys.ensures (sym c.if-ne.false ∙ c.ne.ensures) c.loop-i.invariant

pub returns : goal.returns
returns c = run_is_all c.args.first.now c.args.elements.now c.loop-i.i (omega arith) c.loop-i-test.false c.loop-i.invariant
