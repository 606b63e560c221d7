-- Lists that lie over a list: each has the lesser of each two neighbours of the one below.
use Rattle.std.specs.Prelude.{◌≡◌, ℕ, zero, suc, ℤ, ◌≤◌, ◌/◌, List, [], ◌∷◌, fold, length, get_or, int_le, position, Bool, Option}
use Rattle.std.specs.Int.{int_min}
use Rattle.beam_values.specs.Times.{final_mark}
use Rattle.mark_trees.specs.declared.twin_marks.TwinMarks.{TwinMarks}

abbrev pub no_marks : TwinMarks
no_marks = record { due = final_mark; hold = final_mark }

abbrev pub lesser : TwinMarks → TwinMarks → TwinMarks
lesser a b = record { due = int_min a.due b.due; hold = int_min a.hold b.hold }

-- the least of a list, of each mark by itself; FINAL where it is empty
abbrev pub least_of : List TwinMarks → TwinMarks
least_of marks = fold lesser no_marks marks

abbrev pub is_due : ℤ → TwinMarks → Bool
is_due bound marks = int_le marks.due bound

-- the first place whose mark is due at a bound
abbrev pub first_due : ℤ → List TwinMarks → Option ℕ
first_due bound marks = position (is_due bound) marks

-- the lesser of the first two, of the next two, and so on; a last one without a neighbour stays. Of 5, 3, 8 it is 3, 8
abbrev pub halved : List TwinMarks → List TwinMarks
halved [] = []
halved (a ∷ []) = a ∷ []
halved (a ∷ (b ∷ rest)) = lesser a b ∷ halved rest

-- these lie over the list, the last of them or the list itself having one item at most
abbrev pub AreOver : List TwinMarks → List (List TwinMarks) → Type 0
AreOver low [] = length low ≤ 1
AreOver low (high ∷ higher) = (high ≡ halved low) × AreOver high higher

abbrev pub AreLevels : List (List TwinMarks) → Type 0
AreLevels [] = Unit {0}
AreLevels (low ∷ higher) = AreOver low higher

abbrev pub lowest : List (List TwinMarks) → List TwinMarks
lowest [] = []
lowest (low ∷ higher) = low

-- an item is put at a place, behind the last or in the place of another
abbrev pub put : List TwinMarks → ℕ → TwinMarks → List TwinMarks
put [] zero marks = marks ∷ []
put [] (suc at) marks = []
put (a ∷ rest) zero marks = marks ∷ rest
put (a ∷ rest) (suc at) marks = a ∷ put rest at marks

-- and what lies over it there follows
abbrev pub put_up : List (List TwinMarks) → ℕ → TwinMarks → List (List TwinMarks)
put_up [] at marks = []
put_up (low ∷ higher) at marks = put low at marks ∷ put_up higher (at / 2) (get_or (halved (put low at marks)) (at / 2) marks)

-- a place halved so many times: the one that lies over it in the list that lies so many over
abbrev pub halvings : ℕ → ℕ → ℕ
halvings at zero = at
halvings at (suc n) = halvings (at / 2) n

-- the place over a place of the list in the highest of these is the first
abbrev pub IsUnder : ℕ → List (List TwinMarks) → Type 0
IsUnder at higher = halvings at (length higher) ≡ 0

abbrev pub HasTop : ℕ → List (List TwinMarks) → Type 0
HasTop at [] = ⊥
HasTop at (low ∷ higher) = IsUnder at higher
