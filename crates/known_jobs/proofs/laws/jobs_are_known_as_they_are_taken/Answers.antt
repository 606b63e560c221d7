use Rattle.known_jobs.proofs.Taken.{taken_in, taken_known}
use Rattle.known_jobs.proofs.laws.jobs_are_known_as_they_are_taken.Goals as goal

pub returns : goal.returns
returns c = record { known = taken_known; inside = taken_in }
