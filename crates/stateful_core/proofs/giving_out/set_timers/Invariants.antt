use Rattle.std.proofs.Common.{◌≡◌, ◌++◌, ◌<◌, drop, length}
use Rattle.stateful_core.specs.Data.{timers_from}
use Rattle.stateful_core.proofs.giving_out.set_timers.Given as goal

abbrev pub invariant-loop-name : goal.invariant-loop-name
invariant-loop-name l = record {
  all : l.set ++ timers_from l.name (drop l.name l.timers) (drop l.name l.holds) ≡ timers_from 0 l.timers l.holds;
  sized : 0 < l.name → length l.holds ≡ 8;
}
