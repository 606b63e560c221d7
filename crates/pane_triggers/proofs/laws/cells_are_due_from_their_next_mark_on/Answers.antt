use Rattle.pane_triggers.proofs.DueMarks.{next_is}
use Rattle.pane_triggers.proofs.laws.cells_are_due_from_their_next_mark_on.Goals as goal

pub returns : goal.returns
returns c = λ t end mark on_time unseen low high. (next_is t end on_time unseen).1 mark low high
