use Rattle.pane_triggers.proofs.DueMarks.{next_is}
use Rattle.pane_triggers.proofs.laws.the_next_mark_is_the_least.Goals as goal

pub returns : goal.returns
returns c = λ t end on_time unseen. (next_is t end on_time unseen).0
