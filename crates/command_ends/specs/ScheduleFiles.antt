-- The file of a schedule, and why it was not read.
use Rattle.std.specs.Prelude.{◌≡◌, ℕ, ◌+◌, ◌≤◌, ◌<◌, List, length, Some, None}
use Rattle.beam_values.specs.Files.{first_named}
use Rattle.beam_values.specs.declared.file_text.FileText.{FileText}
use Rattle.beam_ports.specs.Counts.{rise}
use Rattle.beam_ports.specs.Observed.{ObservedStore, WhereTold}
use Rattle.beam_text.specs.declared.refusal.ScheduleRefusal.TheVariants.{Length}
use Rattle.command_ends.specs.declared.status.Status.{Status}
use Rattle.command_ends.specs.declared.status.Status.TheVariants as status

-- a schedule has so many bytes at most
abbrev pub longest_schedule : ℕ
longest_schedule = 1048576

-- these files have this name, and the first of it has so many bytes
abbrev pub HasLengthOf : List FileText → List ℕ → ℕ → Type 0
HasLengthOf told name len = (text : List ℕ) × (first_named name told ≡ Some text) × (length text ≡ len)

-- The schedule's file was not read: where the files are told it isn't there, or it is too long; or opening and reading failed as often as they may, with the
-- failures before; or there was no memory.
abbrev pub IsScheduleUnread : ObservedStore → List ℕ → ℕ → ℕ → Status → Type 0
IsScheduleUnread store name failed attempts (status.NoSource absent) = (absent ≡ name) × WhereTold store.files (λ told. first_named name told ≡ None)
IsScheduleUnread store name failed attempts (status.SourceFault kit) = (kit ≡ 0) × (attempts ≤ failed + rise store.before store.after)
IsScheduleUnread store name failed attempts (status.BadSchedule (Length len)) = (longest_schedule < len) × WhereTold store.files (λ told. HasLengthOf told name len)
IsScheduleUnread store name failed attempts status.NoMemory = Unit {0}
IsScheduleUnread store name failed attempts _ = ⊥
