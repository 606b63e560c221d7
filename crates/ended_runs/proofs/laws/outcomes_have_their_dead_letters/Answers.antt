use Rattle.std.specs.Prelude.{Some}
use Rattle.ended_runs.proofs.DeadLetters.{dead_noted, poison_dead}
use Rattle.ended_runs.proofs.laws.outcomes_have_their_dead_letters.Goals as goal

pub returns : goal.returns
returns c = record {
  noted = λ told b o reached of. dead_noted b o (c.attempts_are_counted.ensures.counted told b reached) (c.attempts_are_counted.ensures.aside told b reached) of;
  poison = λ told b o reached lengths through of.
      poison_dead told b lengths (c.reached_books_are_partitioned.ensures (Some told) b reached) (c.reached_books_are_well_formed.ensures (Some told) b reached)
      (c.told_books_are_kept.ensures.reached told b reached).balanced through o of;
}
