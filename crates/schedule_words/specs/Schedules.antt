-- The lines of a schedule, and what each of them asks for.
use Rattle.std.specs.Prelude.{ℕ, ◌≤◌, ◌==◌, Bool, ◌&&◌, nat_le, if◌then◌else◌, List, [], ◌∷◌, length, codes, Option, Some, None}
use Rattle.std.specs.Char.{is_ascii_digit}
use Rattle.std.specs.List.{list_all, slice_split}
use Rattle.std.specs.Option.{option_and_then}
use Rattle.std.specs.Str.{bytes_eq}
use Rattle.beam_values.specs.Functions.{digits_value}
use Rattle.beam_values.specs.Lines.{is_line_feed}
use Rattle.schedule_words.specs.declared.line.Line.{Line}
use Rattle.schedule_words.specs.declared.line.Line.TheVariants.{Take, Claim, RunJob, Split, Commit, Fail, Drain}

-- ---- lines

-- what stands behind the last LF is a line where it isn't empty
abbrev pub last_line : List ℕ → List (List ℕ)
last_line [] = []
last_line (byte ∷ bytes) = (byte ∷ bytes) ∷ []

abbrev pub lines_in : List (List ℕ) → List (List ℕ)
lines_in [] = []
lines_in (part ∷ []) = last_line part
lines_in (part ∷ (next ∷ parts)) = part ∷ lines_in (next ∷ parts)

-- The lines of a schedule: each ends at an LF, which isn't part of it, or at the end of input. A text that ends in LF has no line behind that, and two LF one
-- after another have an empty line between them.
abbrev pub lines_of : List ℕ → List (List ℕ)
lines_of text = lines_in (slice_split is_line_feed text)

-- ---- words

abbrev pub is_space : ℕ → Bool
is_space byte = byte == 32

-- the number of decimal digits, one at least and so many at most
abbrev pub number_of : ℕ → List ℕ → Option ℕ
number_of most word =
    if nat_le 1 (length word) && nat_le (length word) most && list_all is_ascii_digit word then Some (digits_value word) else None

abbrev pub slot_of : List ℕ → Option ℕ
slot_of word = number_of 2 word

abbrev pub part_of : List ℕ → Option ℕ
part_of word = number_of 7 word

-- ---- what a line asks for

-- a fraction is at most one, and its denominator at most a million
abbrev pub is_fraction : ℕ → ℕ → Bool
is_fraction num den = nat_le num den && nat_le 1 den && nat_le den 1000000

abbrev pub split_line : ℕ → ℕ → ℕ → Option Line
split_line slot num den = if is_fraction num den then Some (Split slot num den) else None

abbrev pub split_of : Option ℕ → Option ℕ → Option ℕ → Option Line
split_of (Some slot) (Some num) (Some den) = split_line slot num den
split_of slot num den = None

abbrev pub split_words : List ℕ → List ℕ → List ℕ → List ℕ → Option Line
split_words word slot num den = if bytes_eq word (codes "split") then split_of (slot_of slot) (part_of num) (part_of den) else None

abbrev pub slot_line : List ℕ → ℕ → Option Line
slot_line word slot =
    if bytes_eq word (codes "take") then Some (Take slot)
    else (if bytes_eq word (codes "claim") then Some (Claim slot)
    else (if bytes_eq word (codes "run") then Some (RunJob slot)
    else (if bytes_eq word (codes "commit") then Some (Commit slot)
    else (if bytes_eq word (codes "fail") then Some (Fail slot)
    else None))))

abbrev pub line_of_words : List (List ℕ) → Option Line
line_of_words (word ∷ []) = if bytes_eq word (codes "drain") then Some Drain else None
line_of_words (word ∷ (slot ∷ [])) = option_and_then (slot_line word) (slot_of slot)
line_of_words (word ∷ (slot ∷ (num ∷ (den ∷ [])))) = split_words word slot num den
line_of_words words = None

-- What a line asks for, or none where it has another form: `take S`, `claim S`, `run S`, `commit S` and `fail S`, `split S NUM DEN`, or `drain`, with one space
-- between the words and no other one. S has one or two digits, NUM and DEN have one to seven.
abbrev pub line_of : List ℕ → Option Line
line_of line = line_of_words (slice_split is_space line)

-- ---- what is known of a line that was read

-- what it splits at is a fraction
pub record IsFraction (num den : ℕ) : Type 0 where
  pub most_one : num ≤ den
  pub some : 1 ≤ den
  pub small : den ≤ 1000000

abbrev pub IsProper : Line → Type 0
IsProper (Split slot num den) = IsFraction num den
IsProper _ = Unit {0}
