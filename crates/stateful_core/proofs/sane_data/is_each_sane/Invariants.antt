use Rattle.std.proofs.Common.{take}
use Rattle.std.specs.List.{All}
use Rattle.stateful_core.specs.SaneData.{IsKeySane}
use Rattle.stateful_core.proofs.sane_data.is_each_sane.Given as goal

abbrev pub invariant-loop-key : goal.invariant-loop-key
invariant-loop-key l = All (IsKeySane l.plan) (take l.key-index l.keys)
