use Rattle.std.proofs.Common.{◌≡◌}
use Rattle.turn_desk.specs.Seen.{note_of, IsPassOf}
use Rattle.turn_desk.specs.Tally.{first_note}
use Rattle.turn_desk.proofs.tally.raise_often.Given as goal

abbrev pub invariant-loop : goal.invariant-loop
invariant-loop g l = record { desk : IsPassOf l.desk l.pass; note : note_of l.pass ≡ first_note l.place l.counter }
