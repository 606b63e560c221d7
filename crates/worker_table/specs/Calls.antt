-- What the calls of a table ask of a pass, and what they tell it.
use Rattle.std.specs.Prelude.{◌≡◌, ℕ, true, false, List, Option, Some, None, Result, Ok, Err}
use Rattle.beam_values.specs.declared.fault.Cause.{Cause}
use Rattle.beam_values.specs.declared.file_text.FileText.{FileText}
use Rattle.bundle_commit.specs.declared.job.Receipt.{Receipt}
use Rattle.book_core.specs.Book.{SeenBook}
use Rattle.book_core.specs.Calls.{Makes, answer_of}
use Rattle.book_core.specs.Steps.{Answer, CanCommit, Committed, Enrolled, Fail, IsCommitting, IsNextFor, IsWithinLimits, NoMemory, Split, SplitAt}
use Rattle.book_core.specs.declared.live.Failure.{Failure}
use Rattle.book_core.specs.declared.live.Failure.TheVariants as failure
use Rattle.book_core.specs.declared.live.Taken.{Taken}
use Rattle.book_core.specs.declared.live.Taken.TheVariants as taken
use Rattle.book_core.specs.declared.live.Unplaced.{Unplaced}
use Rattle.known_jobs.specs.Calls.{IsJobIn, calls_after, reads_after}
use Rattle.known_jobs.specs.Jobs.{Setting}
use Rattle.worker_table.specs.Moves.{Deed, Enrolls, FindsNone, Helps}
use Rattle.worker_table.specs.Notes.{Ending, HasFinished, IsStopped, Entry}
use Rattle.worker_table.specs.declared.help.Help.{Help}
use Rattle.worker_table.specs.declared.help.Help.TheVariants as help

-- ---- what is answered, as a step says it

abbrev pub take_answer : {E : Type 0} → Result Taken E → Answer
take_answer (Ok taken) = answer_of taken
take_answer (Err e) = NoMemory

abbrev pub commit_answer : {U E : Type 0} → Result U E → Answer
commit_answer (Ok u) = Committed
commit_answer (Err e) = NoMemory

-- the slot of an enroll that found no memory is noted as slot 0
abbrev pub enrolled_slot : {E : Type 0} → Result ℕ E → ℕ
enrolled_slot (Ok i) = i
enrolled_slot (Err e) = 0

abbrev pub enroll_answer : {E : Type 0} → Result ℕ E → Answer
enroll_answer (Ok i) = Enrolled i
enroll_answer (Err e) = NoMemory

-- ---- what the pass knows then

-- the slot is the same, and no job failed
pub record KeepsSlot (e e' : Entry) : Type 0 where
  pub slot : e'.slot ≡ e.slot
  pub calls : e'.calls ≡ e.calls
  pub reads : e'.reads ≡ e.reads

-- and what the pass owes and how it ended
pub record GoesOnAs (e e' : Entry) : Type 0 where
  pub keeps : KeepsSlot e e'
  pub owes : e'.owes_split ≡ e.owes_split
  pub ending : e'.ending ≡ e.ending

-- The job that is handed out is the pass's, nothing of it was attempted, and it lies in the plan and its items. Where no job was left the pass has finished, and where the book is stopped, it is.
abbrev pub AfterTake : {E : Type 0} → Setting → Result Taken E → Entry → Entry → Type 0
AfterTake setting (Ok (taken.Job job)) e e' =
    (e'.job ≡ Some (record { job = job; attempted = None })) × IsJobIn setting job × (e'.owes_split ≡ e.owes_split) × (e'.ending ≡ e.ending)
AfterTake setting (Ok taken.Nothing) e e' = (e'.job ≡ None) × (e'.owes_split ≡ true) × (e'.ending ≡ e.ending)
AfterTake setting (Ok taken.Finished) e e' = (e'.job ≡ None) × (e'.owes_split ≡ e.owes_split) × (e'.ending ≡ HasFinished)
AfterTake setting (Ok taken.Stopped) e e' = (e'.job ≡ None) × (e'.owes_split ≡ e.owes_split) × (e'.ending ≡ IsStopped)
AfterTake setting (Err none) e e' = (e'.job ≡ None) × (e'.owes_split ≡ e.owes_split) × (e'.ending ≡ e.ending)

abbrev pub AfterCommit : {U E : Type 0} → Result U E → Entry → Type 0
AfterCommit (Ok u) e' = e'.job ≡ None
AfterCommit (Err e) e' = Unit {0}

abbrev pub ending_by : Failure → Ending → Ending
ending_by failure.Retry ending = ending
ending_by (failure.Spent note) ending = IsStopped

-- the job is given back, or its range is broken, and the pass has one fail more; where that ends the run, it is stopped
pub record AfterFail (at : ℕ) (cause : Cause) (failure : Failure) (e e' : Entry) : Type 0 where
  pub job : e'.job ≡ None
  pub calls : e'.calls ≡ calls_after (Fail at cause) e.calls
  pub reads : e'.reads ≡ reads_after (Fail at cause) e.reads
  pub ending : e'.ending ≡ ending_by failure e.ending
  pub slot : e'.slot ≡ e.slot
  pub owes : e'.owes_split ≡ e.owes_split

-- the pass has this slot, no job and no fails; or it has none
abbrev pub HasGot : {E : Type 0} → Result ℕ E → Entry → Type 0
HasGot (Ok i) e' = e'.slot ≡ Some i
HasGot (Err e) e' = e'.slot ≡ None

pub record AfterEnroll {E : Type 0} (answer : Result ℕ E) (e e' : Entry) : Type 0 where
  pub slot : HasGot answer e'
  pub job : e'.job ≡ None
  pub calls : e'.calls ≡ 0
  pub reads : e'.reads ≡ 0
  pub owes : e'.owes_split ≡ e.owes_split
  pub ending : e'.ending ≡ e.ending

-- what a split of another slot's range leaves of the pass
pub record AfterHelp (e e' : Entry) : Type 0 where
  pub keeps : KeepsSlot e e'
  pub job : e'.job ≡ e.job
  pub owes : e'.owes_split ≡ false
  pub ending : e'.ending ≡ e.ending

pub record AfterStop (e e' : Entry) : Type 0 where
  pub keeps : KeepsSlot e e'
  pub job : e'.job ≡ e.job
  pub owes : e'.owes_split ≡ e.owes_split
  pub ending : e'.ending ≡ IsStopped

-- ---- what is asked of the book

-- an idle slot helps another: none was found, or its range was split, or there was no memory for that
abbrev pub Helping : SeenBook → ℕ → Help → SeenBook → Type 0
Helping b slot help.Nobody b' = IsNextFor b slot None × (b' ≡ b)
Helping b slot (help.Cut other at) b' = IsNextFor b slot (Some other) × Makes b other (Split 1 2) (SplitAt (Some at)) b'
Helping b slot (help.Refused other) b' = IsNextFor b slot (Some other) × (b' ≡ b)

-- the receipt of the slot's job is placed, whatever the files are; or there was no memory for that, and it is handed back
abbrev pub Placing : {U : Type 0} → SeenBook → ℕ → Receipt → Result U Unplaced → SeenBook → Type 0
Placing b slot receipt (Ok u) b' = (told : Option (List FileText)) → CanCommit told b slot receipt → IsCommitting told b slot receipt b' × IsWithinLimits b'
Placing b slot receipt (Err unplaced) b' = (unplaced.receipt ≡ receipt) × (b' ≡ b)

abbrev pub enroll_deed : {E : Type 0} → Result ℕ E → Deed
enroll_deed answer = Enrolls (enrolled_slot answer) (enroll_answer answer)

abbrev pub help_deed : Help → Deed
help_deed help.Nobody = FindsNone
help_deed (help.Cut other at) = Helps other (SplitAt (Some at))
help_deed (help.Refused other) = Helps other NoMemory

-- what is answered: where the range was split
abbrev pub IsHelpAnswer : {E : Type 0} → Help → Result (Option ℕ) E → Type 0
IsHelpAnswer help.Nobody (Ok None) = Unit {0}
IsHelpAnswer (help.Cut other at) (Ok (Some p)) = p ≡ at
IsHelpAnswer (help.Refused other) (Err e) = Unit {0}
IsHelpAnswer _ _ = ⊥
