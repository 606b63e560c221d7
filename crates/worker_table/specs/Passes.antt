-- What contracts see of a table and of a worker's pass.
use Rattle.std.specs.Prelude.{◌≡◌, ℕ, ◌<◌, List, [], length, Option, Some, None}
use Rattle.turn_desk.specs.declared.held.Held.{Ghosts}
use Rattle.turn_desk.specs.declared.held.Note.{Note}
use Rattle.turn_desk.specs.declared.desk.Desk.{Desk}
use Rattle.turn_desk.specs.declared.desk.Pass.{Pass}
use Rattle.turn_desk.specs.Seen.{constant_of, note_of, IsPassOf}
use Rattle.known_jobs.specs.Jobs.{Setting, KnownJob}
use Rattle.worker_table.specs.Notes.{Entry}
use Rattle.worker_table.specs.Turns.{first_entry}
use Rattle.worker_table.specs.declared.pass.Table.{Table}
use Rattle.worker_table.specs.declared.pass.WorkerPass.{WorkerPass}

module _ {V C : Type 0} {g : Ghosts V (List Entry) C} where
  abbrev pub note_in : Option (Pass V (List Entry) C g) → Note (List Entry)
  note_in None = record { numbers = []; free = 0; about = [] }
  note_in (Some pass) = note_of pass

  -- there is a pass of this desk, with this slot
  abbrev pub IsSeatOf : Desk V (List Entry) C → Option (Pass V (List Entry) C g) → Option ℕ → Type 0
  IsSeatOf desk None slot = ⊥
  IsSeatOf desk (Some pass) slot = IsPassOf desk pass × ((first_entry (note_of pass)).slot ≡ slot) × (0 < length (note_of pass).about)

-- what stays as it is while the table stands
abbrev pub setting_of : Table → Setting
setting_of table = constant_of table.desk

-- all that is noted of the passes that were joined into this one, and of itself first
abbrev pub note_of_pass : WorkerPass → Note (List Entry)
note_of_pass pass = note_in pass.pass

-- what is noted of the pass itself
abbrev pub entry_of : WorkerPass → Entry
entry_of pass = first_entry (note_of_pass pass)

abbrev pub slot_of : WorkerPass → Option ℕ
slot_of pass = (entry_of pass).slot

-- the job that the pass works, as it knows it
abbrev pub job_known : WorkerPass → Option KnownJob
job_known pass = (entry_of pass).job

-- the pass is of this table
abbrev pub IsOf : Table → WorkerPass → Type 0
IsOf table pass = IsSeatOf table.desk pass.pass pass.slot
