use Rattle.pane_triggers.proofs.DueMarks.{firing_rises, late_stays}
use Rattle.pane_triggers.proofs.laws.what_is_due_stays_due.Goals as goal

pub returns-clause-fires : goal.returns-clause-fires
returns-clause-fires c = firing_rises

pub returns-clause-late : goal.returns-clause-late
returns-clause-late c = late_stays
