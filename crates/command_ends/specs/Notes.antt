-- The line that a command writes to its notes where it did not end Ok.
use Rattle.std.specs.Prelude.{◌≡◌, ◌⊎◌, ℕ, ◌<◌, ◌≤◌, List, [], ◌∷◌, ◌++◌, codes, decimal, length, take}
use Rattle.beam_values.specs.Texts.{blob_text}
use Rattle.beam_values.specs.declared.fault.Cause.{Cause}
use Rattle.beam_values.specs.declared.fault.Cause.TheVariants.{Call, Read}
use Rattle.beam_values.specs.declared.fault.FaultNote.{FaultNote}
use Rattle.beam_ports.specs.Counts.{Rose}
use Rattle.beam_ports.specs.Observed.{ObservedSink}
use Rattle.beam_ports.specs.Sinks.{then_taken}
use Rattle.beam_text.specs.declared.refusal.ScheduleRefusal.{ScheduleRefusal}
use Rattle.beam_text.specs.declared.refusal.ScheduleRefusal.TheVariants as refusal
use Rattle.combine_lift.specs.declared.refusal.LiftRefusal.{LiftRefusal}
use Rattle.combine_lift.specs.declared.refusal.LiftRefusal.TheVariants as lift
use Rattle.plan_reader.specs.Texts.{refusal_text}
use Rattle.command_ends.specs.declared.status.Status.{Status}
use Rattle.command_ends.specs.declared.status.Status.TheVariants as status

abbrev pub cause_text : Cause → List ℕ
cause_text Call = codes "call"
cause_text Read = codes "read"

abbrev pub attempt_text : FaultNote → List ℕ
attempt_text note = codes " at " ++ (decimal note.at ++ (codes " attempt " ++ (decimal note.attempt ++ (codes " " ++ cause_text note.cause))))

abbrev pub place_text : FaultNote → List ℕ
place_text note = codes "work fault: node " ++ (decimal note.node ++ (codes " item " ++ decimal note.item))

abbrev pub work_text : FaultNote → List ℕ
work_text note = place_text note ++ attempt_text note

-- a file's name, and the two lengths that were met
abbrev pub changed_text : List ℕ → ℕ → ℕ → List ℕ
changed_text name first other = codes "file changed: " ++ (blob_text name ++ (codes " " ++ (decimal first ++ (codes " " ++ decimal other))))

-- why a schedule is refused
abbrev pub schedule_text : ScheduleRefusal → List ℕ
schedule_text (refusal.Line number) = codes "bad schedule: line " ++ decimal number
schedule_text (refusal.NotAllowed number) = codes "bad schedule: not allowed " ++ decimal number
schedule_text (refusal.Length len) = codes "bad schedule: length " ++ decimal len

-- why a plan is not combined
abbrev pub lift_text : LiftRefusal → List ℕ
lift_text lift.Shape = codes "not lifted: 1 shape"
lift_text lift.Part = codes "not lifted: 2 part"
lift_text lift.Sum = codes "not lifted: 3 sum"
lift_text lift.Many = codes "not lifted: 4 many"

-- without the LF at its end
abbrev pub note_text : Status → List ℕ
note_text status.Ok = []
note_text status.Help = []
note_text status.Usage = codes "usage: see beam_run help"
note_text (status.BadPlan refusal) = codes "bad plan: " ++ refusal_text refusal
note_text (status.NoSource name) = codes "no source: " ++ blob_text name
note_text (status.SourceFault kit) = codes "source fault: kit " ++ decimal kit
note_text (status.WorkFault note) = work_text note
note_text status.SinkFault = codes "sink fault"
note_text status.NoMemory = codes "no memory"
note_text (status.FileChanged name first other) = changed_text name first other
note_text (status.BadSchedule refusal) = schedule_text refusal
note_text (status.NotLifted refusal) = lift_text refusal

abbrev pub note_line : Status → List ℕ
note_line s = note_text s ++ 10 ∷ []

-- ---- what the notes took

-- a line was taken, or its first n bytes where the sink failed
pub record IsNotedUpTo (line : List ℕ) (notes : ObservedSink) (n : ℕ) : Type 0 where
  pub within : n ≤ length line
  pub taken : notes.taken_after ≡ then_taken notes.taken_before (take n line)
  pub cut_short : n < length line → Rose notes.before notes.after

-- what the notes took: nothing where the end is Ok or Help, and else its line, or the front of it where the notes failed
abbrev pub IsNoted : Status → ObservedSink → Type 0
IsNoted status.Ok notes = notes.taken_after ≡ notes.taken_before
IsNoted status.Help notes = notes.taken_after ≡ notes.taken_before
IsNoted s notes = (n : ℕ) × IsNotedUpTo (note_line s) notes n

-- only for these ends is memory taken to write the note
abbrev pub IsLongNoted : Status → Type 0
IsLongNoted (status.BadPlan refusal) = Unit {0}
IsLongNoted (status.NoSource name) = Unit {0}
IsLongNoted (status.SourceFault kit) = Unit {0}
IsLongNoted (status.WorkFault note) = Unit {0}
IsLongNoted (status.FileChanged name first other) = Unit {0}
IsLongNoted (status.BadSchedule refusal) = Unit {0}
IsLongNoted (status.NotLifted refusal) = Unit {0}
IsLongNoted _ = ⊥

-- the end after its note was written: the same, or want of memory for the note
abbrev pub StaysOrNoMemory : Status → Status → Type 0
StaysOrNoMemory before after = (after ≡ before) ⊎ ((after ≡ status.NoMemory) × IsLongNoted before)
