use Rattle.std.proofs.Common.{ap, ◌∙◌, refl}
use Rattle.beam_model.specs.Estimators.{later_time}
use Rattle.dofn_traits.specs.Calls.{timed_value}
use Rattle.chain_exec.proofs.Emissions.{latest-push, timely-push}
use Rattle.chain_exec.proofs.position.latest_time.Goals as goal

pub loop-timed-preserved : goal.loop-timed-preserved
loop-timed-preserved c = record {
  latest =
      c.later_time-latest.ensures.later (timed_value c.timed-item.result) refl
      ∙ ap (λ latest. later_time latest (timed_value c.timed-item.result)) c.loop-timed.invariant.latest
      ∙ latest-push c.args.values.now c.loop-timed.timed-index c.timed-item.result c.loop-timed-test.true c.timed-item.is;
  timely = timely-push c.args.values.now c.loop-timed.timed-index c.timed-item.result c.loop-timed-test.true c.timed-item.is c.later_time-latest.ensures.within c.loop-timed.invariant.timely;
}
