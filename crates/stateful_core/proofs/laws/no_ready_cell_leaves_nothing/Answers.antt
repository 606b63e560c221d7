use Rattle.stateful_core.proofs.AtTheEnd.{all_marks_final, nothing_left}
use Rattle.stateful_core.proofs.laws.no_ready_cell_leaves_nothing.Goals as goal

pub returns-clause-through : goal.returns-clause-through
returns-clause-through c = nothing_left

pub returns-clause-marks : goal.returns-clause-marks
returns-clause-marks c = all_marks_final
