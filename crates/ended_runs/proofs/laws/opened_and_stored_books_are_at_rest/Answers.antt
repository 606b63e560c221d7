use Rattle.ended_runs.proofs.RunsOn.{opened_at_rest, stored_at_rest}
use Rattle.ended_runs.proofs.laws.opened_and_stored_books_are_at_rest.Goals as goal

pub returns : goal.returns
returns c = record { opened = opened_at_rest; stored = stored_at_rest }
