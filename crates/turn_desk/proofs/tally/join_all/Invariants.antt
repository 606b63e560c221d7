use Rattle.std.proofs.Common.{◌≡◌, ◌+◌, vec_len}
use Rattle.std.specs.Prelude.{All}
use Rattle.turn_desk.specs.Notes.{size_of}
use Rattle.turn_desk.specs.Seen.{note_of, IsPassOf}
use Rattle.turn_desk.proofs.tally.join_all.Given as goal

abbrev pub invariant-loop-other : goal.invariant-loop-other
invariant-loop-other l = record {
  desk : IsPassOf l.desk l.pass;
  ended : All (λ p. IsPassOf l.desk p × (size_of (note_of p) ≡ 1)) l.ended.items;
  size : size_of (note_of l.pass) + vec_len l.ended ≡ size_of (note_of l.fn.pass) + vec_len l.fn.ended;
}

abbrev pub decreases-loop-other : goal.decreases-loop-other
decreases-loop-other l = vec_len l.ended
