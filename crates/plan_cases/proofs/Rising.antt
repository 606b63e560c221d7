-- The marks of a commit are one list, so where none of that list falls, none does.
use Rattle.std.proofs.Common.{ℕ, ℤ, List, refl, subst}
use Rattle.beam_values.specs.Checked.{IsChecked}
use Rattle.beam_values.specs.Marks.{AreMarks}
use Rattle.beam_values.specs.declared.marks.StageMarks.{StageMarks}
use Rattle.beam_values.specs.declared.plan.Plan.{Plan}
use Rattle.watermarks.proofs.Rising.{marks_agree}
use Rattle.group_cells.specs.Commits.{NoneFalls, RisesFrom}

pub rises_from : (plan : Plan) (hold : ℕ → ℤ) (before next : List StageMarks) → IsChecked plan → AreMarks plan hold next → NoneFalls before next → RisesFrom plan hold before
rises_from plan hold before next checked are rise = λ marks become.
    subst (λ (l : List StageMarks). NoneFalls before l) (marks_agree plan hold hold next marks checked (λ n within. refl) are become) rise
