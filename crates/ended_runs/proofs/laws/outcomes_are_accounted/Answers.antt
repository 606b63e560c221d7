use Rattle.std.specs.Prelude.{Some}
use Rattle.book_core.proofs.SaneAlways.{reached_sane}
use Rattle.ended_runs.proofs.Ending.{outcome_accounted}
use Rattle.ended_runs.proofs.laws.outcomes_are_accounted.Goals as goal

pub returns : goal.returns
returns c told b o reached lengths through of =
    outcome_accounted told b o lengths (c.reached_books_are_partitioned.ensures (Some told) b reached) (c.reached_books_are_well_formed.ensures (Some told) b reached)
    (c.cells_are_kept.ensures.cells (Some told) b reached) (c.cells_are_kept.ensures.writes (Some told) b reached)
    (reached_sane (Some told) b reached).keys (c.told_books_are_kept.ensures.reached told b reached).balanced through of
