use Rattle.ended_runs.proofs.Ending.{outcome_covered}
use Rattle.ended_runs.proofs.laws.sane_books_are_covered.Goals as goal

pub returns : goal.returns
returns c b o sane pending idle of = outcome_covered b o sane.partitioned sane.formed pending idle of
