-- What contracts see of the marks after each commit.
use Rattle.std.specs.Prelude.{ℕ, List, [], ◌∷◌, Option, Some, None}
use Rattle.beam_values.specs.declared.marks.CommitMarks.{CommitMarks}
use Rattle.beam_values.specs.declared.marks.StageMarks.{StageMarks}
use Rattle.group_cells.specs.Commits.{as_commit}

-- the marks, those of the opening first, and of how many commits more they can be added before memory is asked for
pub record SeenCommits : Type 0 where
  pub items : List CommitMarks
  pub room : ℕ

-- those of the newest commit where they lie apart: of marks `m` the list of `as_commit m` alone
abbrev pub apart : Option (List StageMarks) → List CommitMarks
apart None = []
apart (Some newest) = as_commit newest ∷ []

-- so there is room for one commit more where none lie apart, and else for none
abbrev pub room_beside : Option (List StageMarks) → ℕ
room_beside None = 1
room_beside (Some newest) = 0
