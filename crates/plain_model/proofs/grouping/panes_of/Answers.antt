use Rattle.std.proofs.Common.{arith}
use Rattle.plain_model.proofs.Runs.{run_within, shorter, grouped_step}
use Rattle.plain_model.proofs.grouping.panes_of.Goals as goal

pub split_at-requires : goal.split_at-requires
split_at-requires c = omega (arith, run_within c.in-Some.first.now c.loop-first.rest.now)

pub loop-first-smaller : goal.loop-first-smaller
loop-first-smaller c =
    shorter c.loop-first.rest.now c.in-Some.first.now c.run_len.result c.split_at.result.1.now c.in-Some.ensures.value c.run_len.ensures c.split_at.ensures.back

pub loop-first-preserved : goal.loop-first-preserved
loop-first-preserved c =
    grouped_step c.args.sorted.now c.loop-first.rest.now c.loop-first.panes.items c.in-Some.first.now c.run_len.result c.split_at.result.0.now c.split_at.result.1.now c.in_ok-pane_of.field-0 c.push.new.self.items
    c.in-Some.ensures.value c.run_len.ensures c.split_at.ensures.front c.split_at.ensures.back c.in_ok-pane_of.ensures c.in_ok-push.ensures.items c.loop-first.invariant
