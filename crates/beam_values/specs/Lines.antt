-- Lines of a file, by the offset at which each starts (TextIO; that one CR before the LF is dropped is this profile's).
use Rattle.std.specs.Prelude.{ℕ, zero, suc, ◌+◌, ◌-◌, Bool, true, List, [], ◌∷◌, length, take, drop, slice_index, if◌then◌else◌, ◌==◌, nat_lt, min}
use Rattle.std.specs.List.{flat_map, position_or_len}

abbrev pub is_line_feed : ℕ → Bool
is_line_feed byte = byte == 10

-- a line starts at the start of the file and after each LF
abbrev pub starts_line : List ℕ → ℕ → Bool
starts_line file zero = true
starts_line file (suc p) = is_line_feed (slice_index file p)

-- how many bytes stand before the first LF, or before the end of input
abbrev pub line_len : List ℕ → ℕ
line_len rest = position_or_len is_line_feed rest

-- one CR at the very end is dropped; any other CR is data
abbrev pub without_return : List ℕ → List ℕ
without_return text = if slice_index text (length text - 1) == 13 then take (length text - 1) text else text

-- the line that the bytes begin with: up to the first LF, less a CR directly before it, or up to the end of input
abbrev pub first_line : List ℕ → List ℕ
first_line rest = if nat_lt (line_len rest) (length rest) then without_return (take (line_len rest) rest) else rest

-- the line that starts at an offset
abbrev pub line_at : List ℕ → ℕ → List ℕ
line_at file p = first_line (drop p file)

-- the least line start above an offset, or the length of the file where there is none
abbrev pub next_start : List ℕ → ℕ → ℕ
next_start file p = min (p + line_len (drop p file) + 1) (length file)

-- the offsets from one on, as many as are asked for
unfoldable pub offsets : ℕ → ℕ → List ℕ
offsets from zero = []
offsets from (suc count) = from ∷ offsets (suc from) count

-- what the offsets of `[from, to)` give, one after another
abbrev pub spread : {X : Type 0} → (ℕ → List X) → ℕ → ℕ → List X
spread at from to = flat_map at (offsets from (to - from))
