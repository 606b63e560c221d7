-- How workers end, and what is counted of their fails.
use Rattle.std.specs.Prelude.{◌≡◌, ◌⊎◌, ℕ, ◌+◌, ◌≤◌, Bool, true, false, List, [], ◌∷◌, ◌++◌, length, map, unwrap_or, Option, Some, None}
use Rattle.std.specs.List.{sum_by}
use Rattle.beam_values.specs.declared.fault.Cause.{Cause}
use Rattle.beam_values.specs.declared.fault.FaultNote.{FaultNote}
use Rattle.beam_values.specs.declared.file_text.FileText.{FileText}
use Rattle.beam_values.specs.declared.plan.Plan.{Plan}
use Rattle.beam_ports.specs.Counts.{Rose, rise}
use Rattle.beam_ports.specs.Files.{Opening}
use Rattle.beam_ports.specs.Observed.{ObservedStore, observed_store}
use Rattle.book_core.specs.Book.{SeenBook}
use Rattle.book_core.specs.Steps.{Action, Answer, Fail, Finished, Noted, Spent, Step, Stop, Stopped, Take}
use Rattle.chain_exec.specs.Causes.{ObservedShelf, observed_shelf}
use Rattle.retry_core.specs.Shares.{risen}
use Rattle.retry_core.specs.declared.share.FaultShare.{FaultShare}
use Rattle.turn_desk.specs.declared.held.Note.{Note}
use Rattle.turn_desk.specs.Notes.{size_of}
use Rattle.worker_table.specs.Fits.{IsBookOf}
use Rattle.worker_table.specs.Moves.{made_in}
use Rattle.worker_table.specs.Notes.{Entry, HasFinished, IsStopped}
use Rattle.known_jobs.specs.Jobs.{Setting}
use Rattle.worker_table.specs.Passes.{IsOf, entry_of, note_of_pass, setting_of, slot_of}
use Rattle.worker_table.specs.declared.pass.Table.{Table}
use Rattle.bundle_work.specs.Outside.{IsKitKept}
use Rattle.bundle_work.specs.Reading.{IsReading, length_in}
use Rattle.bundle_work.specs.declared.bundles.Worker.{Worker}
use Rattle.bundle_work.specs.declared.kit.Kit.{Kit}
use Rattle.worker_loop.specs.declared.workers.WorkerEnd.{WorkerEnd}
use Rattle.worker_loop.specs.declared.workers.WorkerEnd.TheVariants as end
use Rattle.worker_loop.specs.declared.crew.AllEnd.{AllEnd}
use Rattle.worker_loop.specs.declared.crew.Seat.{Seat}

-- ---- one worker

-- in the last turn of the pass this step of its slot was made and so answered, in a book of the setting
pub record HasMadeLast (setting : Setting) (entry : Entry) (action : Action) (answer : Answer) : Type 0 where
  pub lent : SeenBook
  pub back : SeenBook
  pub book : IsBookOf setting lent
  pub made : Step setting.known.told lent (unwrap_or entry.slot 0) action answer back
  pub last : entry.last ≡ made_in lent (unwrap_or entry.slot 0) action answer

-- The end of a worker is that of its pass: it has finished where a take of its own found no job left. Else the book is stopped: by the last fail that a job
-- may have, which was its own; before its own take; or by itself, for want of memory.
abbrev pub EndsAs : Setting → WorkerEnd → Entry → Type 0
EndsAs setting end.Finished entry = (entry.ending ≡ HasFinished) × HasMadeLast setting entry Take Finished
EndsAs setting end.Spent entry =
    (entry.ending ≡ IsStopped) × (at : ℕ) × (cause : Cause) × (note : FaultNote) × HasMadeLast setting entry (Fail at cause) (Spent note)
EndsAs setting end.Stopped entry = (entry.ending ≡ IsStopped) × HasMadeLast setting entry Take Stopped
EndsAs setting end.NoMemory entry = (entry.ending ≡ IsStopped) × HasMadeLast setting entry Stop Noted

-- the fails of a pass, by their causes, are at most the faults that were counted
pub record AreFailsCounted (shelf : ObservedShelf) (store : ObservedStore) (entry : Entry) : Type 0 where
  pub calls : entry.calls ≤ rise shelf.before shelf.after
  pub reads : entry.reads ≤ rise store.before store.after

-- a share after so many more fails of each cause
abbrev pub share_with : FaultShare → ℕ → ℕ → FaultShare
share_with share calls reads = record { calls = risen share.calls calls; reads = risen share.reads reads }

abbrev pub no_faults : FaultShare
no_faults = record { calls = 0; reads = 0 }

-- ---- from one job of a worker to the next

-- the worker goes on with a pass that has no job and owes no split, or it ends as its pass notes
abbrev pub GoesOnOrEnds : Setting → Option WorkerEnd → Entry → Type 0
GoesOnOrEnds setting None entry = (entry.job ≡ None) × (entry.owes_split ≡ false)
GoesOnOrEnds setting (Some end) entry = EndsAs setting end entry

-- a number of fails stays, or rises by one with a count of faults
abbrev pub RisesWith : ℕ → ℕ → ℕ → ℕ → Type 0
RisesWith fails later before after = (later ≡ fails) ⊎ ((later ≡ fails + 1) × Rose before after)

-- at most one more job failed of each cause, and that was counted
pub record FailsOnce (shelf : ObservedShelf) (store : ObservedStore) (entry later : Entry) : Type 0 where
  pub calls : RisesWith entry.calls later.calls shelf.before shelf.after
  pub reads : RisesWith entry.reads later.reads store.before store.after

-- the share goes on counting the fails of a pass, whatever it began with
abbrev pub CountsOn : FaultShare → FaultShare → Entry → Entry → Type 0
CountsOn share later entry entry_later =
    (first : FaultShare) → share ≡ share_with first entry.calls entry.reads → later ≡ share_with first entry_later.calls entry_later.reads

-- and both
pub record HasCounted (shelf : ObservedShelf) (store : ObservedStore) (before after : FaultShare) (entry later : Entry) : Type 0 where
  pub fails : FailsOnce shelf store entry later
  pub share : CountsOn before after entry later

-- What a worker needs to go on: it has the plan and, as far as shelves are known to be strict, a strict shelf; and its readers are those of the plan, with the
-- lengths of the items.
pub record IsAtWork {F S : Type 0} (is_strict : F → Bool) (opened_by : S → ℕ → Option Opening) (setting : Setting) (graph : Plan) (kit : Kit F S) (worker : Worker) : Type 0 where
  pub plan : graph ≡ setting.plan
  pub strict : setting.known.strict ≡ true → is_strict kit.shelf ≡ true
  pub reading : IsReading setting.known.told (opened_by kit.store) graph worker.readers.items worker.place worker.bench.pager
  pub lengths : map length_in worker.readers.items ≡ setting.files

-- what a job leaves of a worker and of its kit
pub record StaysAtWork {F S : Type 0} (faults_of : F → ℕ) (is_strict : F → Bool) (fails_of : S → ℕ) (files_of : S → Option (List FileText)) (opened_by : S → ℕ → Option Opening)
    (setting : Setting) (graph : Plan) (kit after : Kit F S) (worker later : Worker) : Type 0 where
  pub reading : IsReading setting.known.told (opened_by after.store) graph later.readers.items later.place later.bench.pager
  pub readers : later.readers.items ≡ worker.readers.items
  pub kept : IsKitKept faults_of is_strict fails_of files_of opened_by kit.shelf after.shelf kit.store after.store
  pub files : after.files ≡ kit.files

-- ---- all workers

-- each worker ended as its pass notes
abbrev pub EachEndsAs : Setting → List WorkerEnd → List Entry → Type 0
EachEndsAs setting [] [] = Unit {0}
EachEndsAs setting (end ∷ ends) (entry ∷ entries) = EndsAs setting end entry × EachEndsAs setting ends entries
EachEndsAs setting _ _ = ⊥

abbrev pub sum_calls : List Entry → ℕ
sum_calls entries = sum_by (λ entry. entry.calls) entries

abbrev pub sum_reads : List Entry → ℕ
sum_reads entries = sum_by (λ entry. entry.reads) entries

-- The passes of the workers were joined into one, which has as many numbers as before. Their entries stand behind what it noted, and each end is as the entry at
-- its place says. Their fails are those of the share, and at most the faults that were counted at all kits.
pub record HaveWorked (setting : Setting) (m n : Note (List Entry)) (shelf : ObservedShelf) (store : ObservedStore) (end : AllEnd) : Type 0 where
  pub entries : List Entry
  pub behind : n.about ≡ m.about ++ entries
  pub size : size_of n ≡ size_of m
  pub ended : EachEndsAs setting end.ends entries
  pub share : end.share ≡ share_with no_faults (sum_calls entries) (sum_reads entries)
  pub calls : sum_calls entries ≤ shelf.after
  pub reads : sum_reads entries ≤ store.after

-- ---- a worker's place

-- a pass of one number, which has no slot, and a share that counts nothing yet
pub record IsReady (table : Table) (seat : Seat) : Type 0 where
  pub pass : IsOf table seat.pass
  pub slot : slot_of seat.pass ≡ None
  pub owes : (entry_of seat.pass).owes_split ≡ false
  pub one : length (note_of_pass seat.pass).about ≡ 1
  pub size : size_of (note_of_pass seat.pass) ≡ 1
  pub share : seat.share ≡ no_faults

-- a pass of one number, whose worker ended so and counted its fails
pub record HasSat (table : Table) (seat : Seat) : Type 0 where
  pub pass : IsOf table seat.pass
  pub ended : EndsAs (setting_of table) seat.end (entry_of seat.pass)
  pub one : length (note_of_pass seat.pass).about ≡ 1
  pub size : size_of (note_of_pass seat.pass) ≡ 1
  pub share : seat.share ≡ share_with no_faults (entry_of seat.pass).calls (entry_of seat.pass).reads

-- what a worker leaves of its kit
pub record IsKitDone {F S : Type 0} (is_strict : F → Bool) (faults_of : F → ℕ) (files_of : S → Option (List FileText)) (fails_of : S → ℕ) (opened_by : S → ℕ → Option Opening)
    (kit after : Kit F S) (entry : Entry) : Type 0 where
  pub counted : AreFailsCounted (observed_shelf is_strict faults_of kit.shelf after.shelf) (observed_store files_of fails_of kit.store after.store) entry
  pub files : after.files ≡ kit.files
  pub kept : IsKitKept faults_of is_strict fails_of files_of opened_by kit.shelf after.shelf kit.store after.store
