-- The numbers that lead the keys of the index.
use Rattle.std.specs.Prelude.{ℕ, zero, suc, ◌+◌, ◌-◌, ◌*◌, ◌/◌, ◌%◌, ◌^◌, List, [], ◌∷◌, if◌then◌else◌, length, nat_lt, slice_index}
use Rattle.std.specs.Int.{from_le_bytes, w64}
use Rattle.std.specs.List.{fold}
use Rattle.beam_values.specs.Intervals.{Interval}
use Rattle.beam_values.specs.Spelling.{two's_complement}
use Rattle.beam_values.specs.declared.value.Value.{Value}
use Rattle.beam_values.specs.declared.value.Value.TheOpen as layer
use Rattle.beam_values.specs.declared.value.Value.TheViews.{out-Value}

-- one more word is mixed into a hash, in 64 bits
unfoldable pub with_word : ℕ → ℕ → ℕ
with_word hash word = ((hash + word) % 2 ^ 64 * 11400714819323198485) % 2 ^ 64

unfoldable pub spread : ℕ → ℕ
spread hash = (hash + hash / 2 ^ 32) % 2 ^ 64

-- the eight bytes from a place on as one word, the last one highest
unfoldable pub word_at : List ℕ → ℕ → ℕ
word_at bytes p =
    from_le_bytes w64
    (slice_index bytes p ∷ slice_index bytes (p + 1) ∷ slice_index bytes (p + 2) ∷ slice_index bytes (p + 3) ∷ slice_index bytes (p + 4)
    ∷ slice_index bytes (p + 5) ∷ slice_index bytes (p + 6) ∷ slice_index bytes (p + 7) ∷ [])

-- the hash of so many words
abbrev pub words_hash : List ℕ → ℕ → ℕ
words_hash bytes zero = 0
words_hash bytes (suc words) = with_word (spread (words_hash bytes words)) (word_at bytes (words * 8))

-- the hash of a string of bytes, eight after the other and then the last eight; of fewer, a byte after the other
abbrev pub bytes_hash : List ℕ → ℕ
bytes_hash bytes =
    if nat_lt (length bytes) 8 then fold with_word 0 bytes
    else with_word (spread (words_hash bytes (length bytes / 8))) (word_at bytes (length bytes - 8))

abbrev pub key_hash_step : layer.Value-F Value → ℕ
key_hash_step layer.Null = 0
key_hash_step (layer.Int n) = with_word 0 (two's_complement n)
key_hash_step (layer.Blob bytes) = bytes_hash bytes
key_hash_step (layer.Pair key value) = 0
key_hash_step (layer.Seq items) = 0

-- the hash of a key that is a number or a string of bytes
abbrev pub key_hash : Value → ℕ
key_hash key = key_hash_step (out-Value key)

-- the starts of windows in falling order, and then the hashes of keys
unfoldable pub lead_of : Value → Interval → ℕ
lead_of key span = (2 ^ 32 - 1 - two's_complement span.start % 2 ^ 32) * 2 ^ 32 + key_hash key / 2 ^ 32
