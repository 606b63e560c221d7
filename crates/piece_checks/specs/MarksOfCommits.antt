-- The marks of commits: none falls.
use Rattle.std.specs.Prelude.{◌≡◌, ℕ, suc, ◌≤ℤ◌, List, slice_get, Some}
use Rattle.beam_values.specs.Marks.{marks_at}
use Rattle.beam_values.specs.declared.marks.CommitMarks.{CommitMarks}
use Rattle.beam_values.specs.declared.marks.StageMarks.{StageMarks}

abbrev pub IsRising : StageMarks → StageMarks → Type 0
IsRising old new = (old.mark_in ≤ℤ new.mark_in) × (old.mark_out ≤ℤ new.mark_out)

-- at no node is a mark lower afterwards
abbrev pub NoneFalls : List StageMarks → List StageMarks → Type 0
NoneFalls old new = (n : ℕ) → IsRising (marks_at old n) (marks_at new n)

-- No mark falls from one commit to the next. The marks 10 and 20 of two nodes may be 10 and 30 after the next commit, and not 9 and 30.
abbrev pub NeverFall : List CommitMarks → Type 0
NeverFall commits = (c : ℕ) (old new : CommitMarks) → slice_get commits c ≡ Some old → slice_get commits (suc c) ≡ Some new → NoneFalls old.marks new.marks
