use Rattle.turn_desk.specs.Seen.{IsPassOf}
use Rattle.turn_desk_bench.proofs.count.take_turns.Given as goal

abbrev pub invariant-loop : goal.invariant-loop
invariant-loop g l = IsPassOf l.desk l.pass
