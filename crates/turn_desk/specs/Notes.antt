-- Notes as plain data: which numbers a note has, when two notes share none, and how notes are parted and joined.
use Rattle.std.specs.Prelude.{◌≡◌, ◌≢◌, ℕ, ◌+◌, ◌-◌, ◌<◌, ◌≤◌, List, [], ◌∷◌, ◌++◌, length}
use Rattle.turn_desk.specs.declared.held.Note.{Note}

-- P holds of each number of the list
abbrev pub Each : (ℕ → Type 0) → List ℕ → Type 0
Each P [] = Unit {0}
Each P (x ∷ xs) = P x × Each P xs

-- no number stands twice
abbrev pub AreDistinct : List ℕ → Type 0
AreDistinct [] = Unit {0}
AreDistinct (x ∷ xs) = Each (λ y. y ≢ x) xs × AreDistinct xs

-- the number is none from 1 up to free
abbrev pub IsNotFree : ℕ → ℕ → Type 0
IsNotFree free x = x ≤ free → x ≡ 0

module _ {A : Type 0} where
  -- how many numbers a note has: those of its list, and the free ones
  abbrev pub size_of : Note A → ℕ
  size_of n = length n.numbers + n.free

  -- the list has the pass's own number, no number twice, none from 2^32 on and none that is free
  pub record IsSound (n : Note A) : Type 0 where
    pub own : 0 < length n.numbers
    pub distinct : AreDistinct n.numbers
    pub below : Each (λ x. x < 4294967296) n.numbers
    pub taken : Each (IsNotFree n.free) n.numbers
    pub free : n.free < 4294967296

  -- two notes that share no number
  pub record IsApart (m n : Note A) : Type 0 where
    pub lists : Each (λ x. Each (λ y. y ≢ x) n.numbers) m.numbers
    pub first : Each (IsNotFree n.free) m.numbers
    pub second : Each (IsNotFree m.free) n.numbers
    pub free : 0 < m.free → n.free ≡ 0

  abbrev pub HasSameNumbers : Note A → Note A → Type 0
  HasSameNumbers m n = (n.numbers ≡ m.numbers) × (n.free ≡ m.free)

  -- the note of the first pass of a desk
  abbrev pub opening_note : A → Note A
  opening_note about = record { numbers = 0 ∷ []; free = 4294967295; about = about }

  -- what a pass keeps when another is split off
  abbrev pub kept_part : A → Note A → Note A
  kept_part about n = record { numbers = n.numbers; free = n.free - 1; about = about }

  -- what the pass that is split off has: the greatest free number, and no free one
  abbrev pub given_part : A → Note A → Note A
  given_part about n = record { numbers = n.free ∷ []; free = 0; about = about }

  abbrev pub joined_note : A → Note A → Note A → Note A
  joined_note about m n = record { numbers = m.numbers ++ n.numbers; free = m.free + n.free; about = about }
