use Rattle.book_core.proofs.LeftAlways.{fail_leaves, take_leaves}
use Rattle.book_core.proofs.laws.fails_lower_what_is_left.Goals as goal

pub returns : goal.returns
returns c = record { fail = fail_leaves; take = take_leaves }
