use Rattle.std.proofs.Common.{◌≡◌, map, take}
use Rattle.std.specs.List.{All}
use Rattle.beam_values.specs.Times.{IsTime}
use Rattle.beam_model.specs.Estimators.{latest_time}
use Rattle.dofn_traits.specs.Calls.{timed_value}
use Rattle.chain_exec.proofs.position.latest_time.Given as goal

abbrev pub invariant-loop-timed : goal.invariant-loop-timed
invariant-loop-timed l = record {
  latest : l.latest ≡ latest_time (map timed_value (take l.timed-index l.values));
  timely : All (λ value. IsTime value.time) (map timed_value (take l.timed-index l.values));
}
