-- Which bytes spell what, case by case on whole lists of bytes. The spellings of values are those of Beam's coders: VarInt, bytes with their length before them, KV, and items with their count before them. Those of times, windows, pane tags and elements are this project's own.
use Rattle.std.specs.Prelude.{◌≡◌, ℕ, ◌+◌, ◌*◌, ◌^◌, ◌<◌, ℤ, pos, ◌+ℤ◌, List, [], ◌∷◌, ◌++◌, length, All}
use Rattle.std.specs.Int.{w64, from_be_bytes}
use Rattle.beam_values.specs.declared.value.Value.{Value}
use Rattle.beam_values.specs.declared.value.Value.TheVariants.{Null, Int, Blob, Pair, Seq}
use Rattle.beam_values.specs.declared.element.PaneTag.{PaneTag}
use Rattle.beam_values.specs.declared.element.Element.{Element}
use Rattle.beam_values.specs.Timings.{timing_number}
use Rattle.beam_values.specs.Spelling.{two's_complement}

-- VarInt: base 128, the least group first, with 128 added to each group that others follow. What follows a group isn't 0, so the bytes are as few as can be.
pub data IsVarint : ℕ → List ℕ → Type 0 where
  last : {group : ℕ} → group < 128 → IsVarint group (group ∷ [])
  more : {group above : ℕ} {bytes : List ℕ} → group < 128 → 0 < above → IsVarint above bytes → IsVarint (group + 128 * above) ((128 + group) ∷ bytes)

mutual
  -- A tag and what it says: nothing; a whole number as the VarInt of its 64 bits; bytes with their length before them; a key and its value; items with their count before them.
  pub data Spells : Value → List ℕ → Type 0 where
    null : Spells Null (0 ∷ [])
    int : (n : ℤ) {number : List ℕ} → IsVarint (two's_complement n) number → Spells (Int n) (1 ∷ number)
    blob : (bytes : List ℕ) {len : List ℕ} → IsVarint (length bytes) len → Spells (Blob bytes) (2 ∷ (len ++ bytes))
    pair : {key value : Value} {front back : List ℕ} → Spells key front → Spells value back → Spells (Pair key value) (3 ∷ (front ++ back))
    seq : {items : List Value} {count back : List ℕ} → IsVarint (length items) count → SpellsAll items back → Spells (Seq items) (4 ∷ (count ++ back))

  -- the items one after another
  pub data SpellsAll : List Value → List ℕ → Type 0 where
    none : SpellsAll [] []
    next : {item : Value} {items : List Value} {front back : List ℕ} → Spells item front → SpellsAll items back → SpellsAll (item ∷ items) (front ++ back)

-- Milliseconds: eight bytes, highest first, of two's complement with the sign bit flipped, which is 2 ^ 63 more than the number. So the order of these bytes is that of the numbers.
pub record SpellsMs (ms : ℤ) (bytes : List ℕ) : Type 0 where
  pub eight : length bytes ≡ 8
  pub each : All (λ byte. byte < 256) bytes
  pub number : pos (from_be_bytes w64 bytes) ≡ ms +ℤ pos (2 ^ 63)

-- a byte for the timing, EARLY 0, ON_TIME 1, LATE 2, UNKNOWN 3, and the VarInt of the index
pub data SpellsPane : PaneTag → List ℕ → Type 0 where
  pane : (p : PaneTag) {index : List ℕ} → IsVarint p.index index → SpellsPane p (timing_number p.timing ∷ index)

-- the time, the start and the end of the window, the pane's tag, and the value
pub data SpellsElement : Element → List ℕ → Type 0 where
  element : (e : Element) {time start end tag value : List ℕ} → SpellsMs e.time time → SpellsMs e.span.start start → SpellsMs e.span.end end → SpellsPane e.pane tag → Spells e.value value
      → SpellsElement e (time ++ (start ++ (end ++ (tag ++ value))))
