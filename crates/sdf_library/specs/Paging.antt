-- What is held of a file whose positions are worked, and what it serves for.
use Rattle.std.specs.Prelude.{◌≡◌, ◌⊎◌, ℕ, ◌+◌, ◌-◌, ◌*◌, ◌<◌, ◌≤◌, Bool, true, false, ◌&&◌, nat_lt, nat_le, List, [], length, take, drop, Option, Some, None, if◌then◌else◌}
use Rattle.std.specs.List.{list_any}
use Rattle.beam_ports.specs.Files.{Opening}
use Rattle.beam_values.specs.Checked.{reads_file}
use Rattle.beam_values.specs.Lines.{is_line_feed, line_len, next_start}
use Rattle.beam_values.specs.declared.plan.Args.{Args}
use Rattle.beam_values.specs.declared.plan.SourceKind.{SourceKind}
use Rattle.beam_values.specs.declared.plan.SourceKind.TheVariants.{Lines}
use Rattle.dofn_traits.specs.Calls.{is_cut_short, IsView, IsViewOf}
use Rattle.dofn_traits.specs.declared.calls.Look.{Look}
use Rattle.sdf_library.specs.declared.quiet.Quiet.{Quiet}

-- The number of an opened file and its length, and bytes of it: those from `base` on. Nothing is held of it where there are none. And between which of its
-- offsets no line starts, as far as that is noted.
pub record Paged : Type 0 where
  pub file : ℕ
  pub len : ℕ
  pub base : ℕ
  pub bytes : List ℕ
  pub quiet : Quiet

-- where the text is told, the bytes are its bytes from `base` on: of `abc`, the bytes `bc` with base 1
abbrev pub HoldsFile : Option Opening → Paged → Type 0
HoldsFile opening held =
    (text : List ℕ) → opening ≡ Some (record { len = held.len; text = Some text }) → length text ≡ held.len
    → held.bytes ≡ take (length held.bytes) (drop held.base text)

-- Where `from` is less than `to`, `to` is the start of the line after the one that `from` stands in. By hand: of `ab LF cd LF` it is 3 for 0, 1 and 2.
abbrev pub IsQuiet : List ℕ → Quiet → Type 0
IsQuiet text quiet = quiet.from < quiet.to → quiet.to ≡ next_start text quiet.from

-- where the text is told, what is noted is so of it
abbrev pub KnowsQuiet : Option Opening → Paged → Type 0
KnowsQuiet opening held =
    (text : List ℕ) → opening ≡ Some (record { len = held.len; text = Some text }) → length text ≡ held.len → IsQuiet text held.quiet

-- the start of the line after a position, where the position is noted to stand inside a line: with 0 and 3 noted it is 3 for 1 and 2, and for 0 and 3 it isn't known
abbrev pub noted_next : ℕ → Quiet → Option ℕ
noted_next p quiet = if nat_lt quiet.from p && nat_lt p quiet.to then Some quiet.to else None

-- What is held serves to work a position: it has the byte there and, where there is one, the byte before it. So it is a view of the file for any
-- source that reads files. By hand: `bc` with base 1 serves position 2, and not 1 or 3.
pub record Serves (held : Paged) (p : ℕ) : Type 0 where
  pub reached : p < held.base + length held.bytes
  pub view : (kind : SourceKind) (args : Args) → reads_file kind ≡ true → IsView kind args held.bytes held.base held.len p

-- where the text is told, it is a view of that text
abbrev pub ShowsText : Option Opening → Paged → Type 0
ShowsText opening held =
    (text : List ℕ) → opening ≡ Some (record { len = held.len; text = Some text }) → length text ≡ held.len
    → (kind : SourceKind) (args : Args) → reads_file kind ≡ true → IsViewOf text kind args held.bytes held.base held.len

-- it reaches the end of the file
abbrev pub ReachesEnd : Paged → Type 0
ReachesEnd held = held.base + length held.bytes ≡ held.len

-- where more was asked for, more bytes are held now, or all up to the end of the file
abbrev pub ReachesOn : Bool → Paged → Paged → Type 0
ReachesOn more old new = more ≡ true → (length old.bytes < length new.bytes) ⊎ ReachesEnd new

-- what is held can be the answer as it is: it serves, and no more was asked for or no more is there
abbrev pub IsEnough : Bool → Paged → ℕ → Type 0
IsEnough more held p = Serves held p × ((more ≡ false) ⊎ ReachesEnd held)

-- the line at each offset that is held before `to` ends within what is held: of `ab LF cd` with base 7 for 10 and for what is less
abbrev pub AreWhole : ℕ → List ℕ → ℕ → Type 0
AreWhole base bytes to = (at : ℕ) → base ≤ at → at < to → list_any is_line_feed (drop (at - base) bytes) ≡ true

-- a block, in bytes
abbrev pub block : ℕ
block = 65536

-- what is left where all that stands before this byte of the file is given up; nothing where the byte stands before what is held
abbrev pub held_from : ℕ → Paged → Paged
held_from first held =
    record held { base = first; bytes = if nat_le held.base first then drop (first - held.base) held.bytes else [] }

-- so many of the bytes that are held, from the byte before the position on
abbrev pub page_at : ℕ → ℕ → Paged → Paged
page_at p most held = record (held_from (p - 1) held) { bytes = take most (held_from (p - 1) held).bytes }

-- a block of what is held, from the byte before the position on: of more, as a long line asks for, the rest is given up
abbrev pub block_at : ℕ → Paged → Paged
block_at p held = page_at p block held

-- the line at a position goes on past what is held
abbrev pub is_line_cut : ℕ → Paged → Bool
is_line_cut p held = is_cut_short Lines held.bytes held.base held.len p

-- At most two blocks more are held than there are of the line at a position. By hand: of a line of 70000 bytes at most 201072 for its start.
abbrev pub IsLean : ℕ → Paged → Type 0
IsLean p held = length held.bytes ≤ 2 * block + line_len (drop (p - held.base) held.bytes)

-- what is held is enough for a position: it serves, and the line there ends within it
abbrev pub HoldsLine : Paged → ℕ → Type 0
HoldsLine held p = Serves held p × (is_line_cut p held ≡ false)

-- Where more isn't asked for, a look cuts what is held to a block. By hand: of 70000 bytes from 0 on it leaves for position 66001 the 4000 from 66000 on.
abbrev pub cut_where : Bool → ℕ → Paged → Paged
cut_where more p held = if more then held else if nat_le (length held.bytes) block then held else block_at p held

-- with more, where the position was served, what is held reaches further than before
abbrev pub ReachesFurther : Bool → ℕ → Paged → Paged → Type 0
ReachesFurther more p old new =
    more ≡ true → Serves old p → (old.base + length old.bytes < new.base + length new.bytes) ⊎ ReachesEnd new

-- without more at most `most` bytes are held then, and with more at most `step` bytes more than before
abbrev pub IsBounded : ℕ → ℕ → Bool → Paged → Paged → Type 0
IsBounded most step more old new =
    (more ≡ false → length new.bytes ≤ most) × (more ≡ true → length new.bytes ≤ length old.bytes + step)

-- after a call the same file is held, and where its text is told the bytes are its bytes
pub record KeepsPage (opening : Option Opening) (old new : Paged) : Type 0 where
  pub file : new.file ≡ old.file
  pub len : new.len ≡ old.len
  pub quiet : new.quiet ≡ old.quiet
  pub held : HoldsFile opening new

-- what a look at this file shows is all that is held of it then
abbrev pub shown_by : Paged → Look → Paged
shown_by held look = record held { len = look.len; base = look.base; bytes = look.bytes.now }
