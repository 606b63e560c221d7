-- A list of counts, one for each pass that was split off, as the tests hold it.
use Rattle.std.specs.Prelude.{◌≡◌, ℕ, ◌+◌, ◌-◌, ◌<◌, ◌≤◌, List, [], ◌∷◌, length, slice_index, slice_set}
use Rattle.turn_desk.specs.declared.held.Note.{Note}

-- the place of the count of a number: passes are split off with the greatest numbers
abbrev pub place_of : ℕ → ℕ
place_of number = 4294967295 - number

abbrev pub count_at : List ℕ → ℕ → ℕ
count_at counts number = slice_index counts (place_of number)

-- each number's count is the one that the note has for it
abbrev pub AreCounts : List ℕ → List ℕ → List ℕ → Type 0
AreCounts counts [] [] = Unit {0}
AreCounts counts [] (k ∷ ks) = ⊥
AreCounts counts (n ∷ ns) [] = ⊥
AreCounts counts (n ∷ ns) (k ∷ ks) = (count_at counts n ≡ k) × AreCounts counts ns ks

-- there are so many counts; the note has those of its numbers, and free numbers have counted nothing
abbrev pub TallyFits : List ℕ → ℕ → Note (List ℕ) → Type 0
TallyFits counts places note =
    (length counts ≡ places) × AreCounts counts note.numbers note.about
    × ((n : ℕ) → 0 < n → n ≤ note.free → count_at counts n ≡ 0)

abbrev pub raised : List ℕ → List ℕ
raised [] = []
raised (k ∷ ks) = (k + 1) ∷ ks

abbrev pub raised_note : Note (List ℕ) → Note (List ℕ)
raised_note note = record note { about = raised note.about }

-- the pass's own count is one more, in the list and in the note
abbrev pub TallyMoves : List ℕ → Note (List ℕ) → List ℕ → Note (List ℕ) → Type 0
TallyMoves counts note counts' note' =
    (place_of (slice_index note.numbers 0) < length counts)
    × (counts' ≡ slice_set counts (place_of (slice_index note.numbers 0)) (count_at counts (slice_index note.numbers 0) + 1))
    × (note' ≡ raised_note note)

-- the note of a pass that was split off, once it counted so far
abbrev pub first_note : ℕ → ℕ → Note (List ℕ)
first_note place count = record { numbers = (4294967295 - place) ∷ []; free = 0; about = count ∷ [] }
