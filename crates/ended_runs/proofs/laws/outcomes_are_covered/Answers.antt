use Rattle.ended_runs.proofs.Ending.{outcome_covered}
use Rattle.ended_runs.proofs.laws.outcomes_are_covered.Goals as goal

pub returns : goal.returns
returns c told b o reached through of =
    outcome_covered b o (c.reached_books_are_partitioned.ensures told b reached) (c.reached_books_are_well_formed.ensures told b reached) through.pending through.idle of
