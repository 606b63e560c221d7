-- A store over files that are shorter than it says: what contracts see of it, and how it answers.
use Rattle.std.specs.Prelude.{◌≡◌, ℕ, ◌^◌, ◌≤◌, ◌<◌, Bool, false, nat_le, nat_lt, if◌then◌else◌, List, length, position, slice_get, Option, Some, None, option_map, unwrap_or, Result, Ok, Err}
use Rattle.beam_ports.specs.declared.refusal.Failed.{Failed}
use Rattle.beam_ports.specs.declared.refusal.OpenRefusal.{OpenRefusal}
use Rattle.beam_ports.specs.declared.refusal.OpenRefusal.TheVariants.{Absent, Failed as Faulty}
use Rattle.beam_ports.specs.declared.store.Opened.{Opened}
use Rattle.beam_values.specs.declared.file_text.FileText.{FileText}
use Rattle.beam_ports.specs.Files.{Opening}
use Rattle.beam_ports.specs.StoreMemory.{buffer_read, count_read, text_of}
use Rattle.beam_values.specs.Files.{is_named}

-- the files, the length that it says of each, and how many calls failed
pub record ShrunkMemory : Type 0 where
  pub files : List FileText
  pub claimed : List ℕ
  pub faults : ℕ

abbrev pub claimed_at : List ℕ → ℕ → ℕ
claimed_at claimed file = unwrap_or (slice_get claimed file) 0

-- a length for each file, and none below its file's
pub record AreClaimed (files : List FileText) (claimed : List ℕ) : Type 0 where
  pub each : length claimed ≡ length files
  pub enough : (file : ℕ) → file < length files → length (text_of files file) ≤ claimed_at claimed file

-- each file has its index as its number, and counts as opened from the start; its bytes aren't told
abbrev pub claimed_opening : List ℕ → ℕ → Option Opening
claimed_opening claimed file = option_map (λ len. record { len = len; text = None }) (slice_get claimed file)

-- the file at this index, with the length that is said of it; an index that no number of 32 bits tells is a fault
abbrev pub shrunk_at : List ℕ → Option ℕ → Result Opened OpenRefusal
shrunk_at claimed (Some file) = if nat_lt file (2 ^ 32) then Ok (record { file = file; len = claimed_at claimed file }) else Err Faulty
shrunk_at claimed None = Err Absent

abbrev pub shrunk_opening : ShrunkMemory → List ℕ → Result Opened OpenRefusal
shrunk_opening store name = shrunk_at store.claimed (position (is_named name) store.files)

-- a read of so many bytes from `at` asks for bytes that the store says are there, and that aren't
abbrev pub is_missing : ShrunkMemory → ℕ → ℕ → ℕ → Bool
is_missing store file at room =
    if nat_lt 0 room then (if nat_le (length (text_of store.files file)) at then nat_lt at (claimed_at store.claimed file) else false) else false

abbrev pub shrunk_read : ShrunkMemory → ℕ → ℕ → List ℕ → Result ℕ Failed
shrunk_read store file at buffer = if is_missing store file at (length buffer) then Err (record {}) else Ok (count_read (text_of store.files file) at (length buffer))

abbrev pub shrunk_leaves : ShrunkMemory → ℕ → ℕ → List ℕ → List ℕ
shrunk_leaves store file at buffer = if is_missing store file at (length buffer) then buffer else buffer_read (text_of store.files file) at buffer
