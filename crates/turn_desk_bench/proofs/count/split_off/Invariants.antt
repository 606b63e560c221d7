use Rattle.std.proofs.Common.{◌≡◌, ◌+◌}
use Rattle.std.specs.Prelude.{All}
use Rattle.turn_desk.specs.Seen.{note_of, IsPassOf}
use Rattle.turn_desk_bench.proofs.count.split_off.Given as goal

abbrev pub invariant-loop : goal.invariant-loop
invariant-loop l = record {
  first : IsPassOf l.desk l.first;
  free : (note_of l.first).free + l.counter ≡ 4294967295;
  passes : All (λ p. IsPassOf l.desk p) l.passes.items;
}
