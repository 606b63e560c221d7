-- Lists over a list as they lie in memory.
use Rattle.std.specs.Prelude.{◌≡◌, ℕ, ◌<◌, ◌≤◌, ◌/◌, List, [], ◌∷◌, Vec, length, map, get_or, slice_set, vec_capacity, vec_len}
use Rattle.std.specs.declared.alloc.Global.{Global}
use Rattle.mark_trees.specs.Halves.{halved, put}
use Rattle.mark_trees.specs.declared.twin_marks.TwinMarks.{TwinMarks}

abbrev pub lists_of : List (Vec TwinMarks Global) → List (List TwinMarks)
lists_of levels = map (λ level. level.items) levels

abbrev pub HasRoom : Vec TwinMarks Global → Type 0
HasRoom level = vec_len level < vec_capacity level

-- an item can be put at a place of the first list, and what lies over it in the others
abbrev pub HaveRoom : ℕ → List (Vec TwinMarks Global) → Type 0
HaveRoom at [] = Unit {0}
HaveRoom at (level ∷ higher) = (at ≤ length level.items) × (at ≡ length level.items → HasRoom level) × HaveRoom (at / 2) higher

-- one list is another then, and this lies over the place
pub record IsPutAt (levels : List (Vec TwinMarks Global)) (k : ℕ) (old : Vec TwinMarks Global) (at : ℕ) (marks : TwinMarks) (after : List (Vec TwinMarks Global)) (up : TwinMarks) : Type 0 where
  pub new : Vec TwinMarks Global
  pub set : after ≡ slice_set levels k new
  pub items : new.items ≡ put old.items at marks
  pub over : up ≡ get_or (halved new.items) (at / 2) marks
