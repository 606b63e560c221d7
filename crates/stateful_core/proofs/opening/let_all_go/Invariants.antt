use Rattle.std.proofs.Common.{◌≡◌}
use Rattle.std.specs.Prelude.{vec_capacity, vec_len}
use Rattle.stateful_core.specs.Seen.{cells_of}
use Rattle.stateful_core.proofs.opening.let_all_go.Given as goal

abbrev pub invariant-loop-k : goal.invariant-loop-k
invariant-loop-k l = record {
  cells : cells_of l.slots.items ≡ cells_of l.initial.slots.items;
  len : vec_len l.slots ≡ vec_len l.initial.slots;
  capacity : vec_capacity l.slots ≡ vec_capacity l.initial.slots;
}
