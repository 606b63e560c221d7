-- Snapshots: the bytes that a book is stored as, and what bytes mean.
use Rattle.std.specs.Prelude.{ℕ, List, [], ◌∷◌, ◌++◌, take, drop, bytes_eq, if◌then◌else◌, Option, Some, None, Result, Ok, Err}
use Rattle.beam_values.specs.declared.value.Value.{Value}
use Rattle.beam_values.specs.Spelling.{spelling}
use Rattle.beam_coders.specs.Readable.{depth_limit}
use Rattle.beam_coders.specs.Reading.{Reading, value_at}
use Rattle.book_core.specs.declared.data.BookData.{BookData}
use Rattle.book_core.specs.BookForms.{book_form}
use Rattle.snapshot_refusal.specs.declared.refusal.SnapRefusal.{SnapRefusal}
use Rattle.snapshot_refusal.specs.declared.refusal.SnapRefusal.TheVariants.{Magic, Coder, Rest, Shape}

-- what every snapshot begins with: the letters BSN and the digit 1
abbrev pub magic : List ℕ
magic = 0x42 ∷ 0x53 ∷ 0x4e ∷ 0x31 ∷ []

-- the bytes of a snapshot
abbrev pub snap : BookData → List ℕ
snap d = magic ++ spelling (book_form.to d)

infixl 10 ◌>>=◌
abbrev pub ◌>>=◌ : {A B : Type 0} → Result A SnapRefusal → (A → Result B SnapRefusal) → Result B SnapRefusal
(Ok x) >>= f = f x
(Err e) >>= f = Err e

-- what follows the first four bytes
unfoldable pub after_magic : List ℕ → Result (List ℕ) SnapRefusal
after_magic bytes = if bytes_eq (take 4 bytes) magic then Ok (drop 4 bytes) else Err Magic

-- no byte follows
abbrev pub alone : Value → List ℕ → Result Value SnapRefusal
alone v [] = Ok v
alone v (byte ∷ rest) = Err Rest

abbrev pub whole : Reading Value → Result Value SnapRefusal
whole (Ok x) = alone x.0 x.1
whole (Err refusal) = Err (Coder refusal)

-- the value that the bytes spell, with none left over
unfoldable pub value_meaning : List ℕ → Result Value SnapRefusal
value_meaning bytes = whole (value_at depth_limit bytes)

abbrev pub formed : Option BookData → Result BookData SnapRefusal
formed (Some d) = Ok d
formed None = Err Shape

-- What bytes mean as a snapshot, or the first rule that fails. `42 53 4e` is refused as Magic, `42 53 4e 31` as Coder Short, and `42 53 4e 31 00 07` as Rest,
-- though Null isn't a book either. `42 53 4e 31 00` is refused as Shape.
abbrev pub snap_meaning : List ℕ → Result BookData SnapRefusal
snap_meaning bytes = do
  spelled ← after_magic bytes
  value ← value_meaning spelled
  formed (book_form.of value)
