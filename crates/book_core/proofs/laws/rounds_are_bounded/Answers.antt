use Rattle.book_core.proofs.LeftAlways.{claim_rounds, commit_rounds, fail_rounds, take_rounds}
use Rattle.book_core.proofs.laws.rounds_are_bounded.Goals as goal

pub returns : goal.returns
returns c = record { take = take_rounds; claim = claim_rounds; commit = commit_rounds; fail = fail_rounds }
