use Rattle.book_core.proofs.AllKept.{honest_reached}
use Rattle.book_core.proofs.laws.honest_runs_are_runs.Goals as goal

pub returns : goal.returns
returns c = honest_reached
