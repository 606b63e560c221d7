use Rattle.std.proofs.Common.{◌≡◌, ◌<◌, length, take}
use Rattle.std.specs.Prelude.{fold}
use Rattle.stateful_core.specs.Minima.{lowered}
use Rattle.stateful_core.proofs.cell_hold.lower_timers.Given as goal

abbrev pub invariant-loop-name : goal.invariant-loop-name
invariant-loop-name l = record {
  least : l.least ≡ fold lowered l.fn.mark (take l.name l.timers);
  eight : 0 < l.name → length l.timers ≡ 8;
}
