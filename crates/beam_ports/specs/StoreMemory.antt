-- A store in memory: what contracts see of it, and how it answers.
use Rattle.std.specs.Prelude.{ℕ, ◌-◌, ◌^◌, Bool, true, false, ◌==◌, nat_lt, if◌then◌else◌, min, List, [], ◌++◌, length, take, drop, position, slice_get, Option, Some, None, option_map, unwrap_or, Result, Ok, Err}
use Rattle.std.specs.List.{list_any}
use Rattle.beam_ports.specs.declared.refusal.Failed.{Failed}
use Rattle.beam_ports.specs.declared.refusal.OpenRefusal.{OpenRefusal}
use Rattle.beam_ports.specs.declared.refusal.OpenRefusal.TheVariants.{Absent, Failed as Faulty}
use Rattle.beam_ports.specs.declared.store.Opened.{Opened}
use Rattle.beam_values.specs.declared.file_text.FileText.{FileText}
use Rattle.beam_ports.specs.Counts.{raised}
use Rattle.beam_ports.specs.Files.{Opening}
use Rattle.beam_values.specs.Files.{is_named}

pub record StoreMemory : Type 0 where
  pub files : List FileText
  pub failing : List ℕ
  pub calls : ℕ
  pub faults : ℕ

-- the call with this number is one of those that fail
abbrev pub is_listed : List ℕ → ℕ → Bool
is_listed failing call = list_any (λ listed. listed == call) failing

-- the store after one more call
abbrev pub after_call : StoreMemory → Bool → StoreMemory
after_call store failed = record store { calls = raised store.calls; faults = if failed then raised store.faults else store.faults }

-- each listed file has its index as its number; it counts as opened from the start
abbrev pub listed_opening : List FileText → ℕ → Option Opening
listed_opening files file = option_map (λ listed. record { len = length listed.bytes; text = Some listed.bytes }) (slice_get files file)

abbrev pub text_of : List FileText → ℕ → List ℕ
text_of files file = unwrap_or (option_map (λ listed. listed.bytes) (slice_get files file)) []

-- the file at this index; an index that no number of 32 bits tells is a fault
abbrev pub opened_at : List FileText → Option ℕ → Result Opened OpenRefusal
opened_at files (Some file) = if nat_lt file (2 ^ 32) then Ok (record { file = file; len = length (text_of files file) }) else Err Faulty
opened_at files None = Err Absent

-- a call that opens: one that is listed fails, and else the first file of that name answers
abbrev pub open_answer : StoreMemory → List ℕ → Result Opened OpenRefusal
open_answer store name = if is_listed store.failing store.calls then Err Faulty else opened_at store.files (position (is_named name) store.files)

abbrev pub is_fault : Result Opened OpenRefusal → Bool
is_fault (Err Faulty) = true
is_fault _ = false

-- how much of a text a read from `at` gives
abbrev pub count_read : List ℕ → ℕ → ℕ → ℕ
count_read text at room = min room (length text - at)

-- the buffer after such a read
abbrev pub buffer_read : List ℕ → ℕ → List ℕ → List ℕ
buffer_read text at buffer = let count = count_read text at (length buffer) in take count (drop at text) ++ drop count buffer

-- a call that reads: one that is listed fails and leaves the buffer as it was
abbrev pub read_answer : StoreMemory → ℕ → ℕ → List ℕ → Result ℕ Failed
read_answer store file at buffer = if is_listed store.failing store.calls then Err (record {}) else Ok (count_read (text_of store.files file) at (length buffer))

abbrev pub read_leaves : StoreMemory → ℕ → ℕ → List ℕ → List ℕ
read_leaves store file at buffer = if is_listed store.failing store.calls then buffer else buffer_read (text_of store.files file) at buffer
