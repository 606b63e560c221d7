use Rattle.book_core.proofs.LeftAlways.{claim_leaves, commit_leaves}
use Rattle.book_core.proofs.laws.commits_lower_what_is_left.Goals as goal

pub returns : goal.returns
returns c = record { commit = commit_leaves; claim = claim_leaves }
