-- In which turns of its pass a worker does its work: it enrolls, and makes one round after another, each with at most one job.
use Rattle.std.specs.Prelude.{◌≡◌, ◌⊎◌, ℕ, List, [], ◌∷◌, Option, Some, None, Result, Ok, Err}
use Rattle.beam_values.specs.declared.fault.Cause.{Cause}
use Rattle.beam_values.specs.declared.fault.FaultNote.{FaultNote}
use Rattle.bundle_commit.specs.declared.job.Receipt.{Receipt}
use Rattle.turn_desk.specs.declared.held.Note.{Note}
use Rattle.book_core.specs.Steps.{Fail, Retried, Spent, Take}
use Rattle.book_core.specs.declared.live.Taken.{Taken}
use Rattle.book_core.specs.declared.live.Taken.TheVariants as taken
use Rattle.known_jobs.specs.Calls.{FailsInside, HasAttempted}
use Rattle.known_jobs.specs.Jobs.{Setting}
use Rattle.worker_table.specs.Calls.{take_answer}
use Rattle.worker_table.specs.Notes.{Entry}
use Rattle.worker_table.specs.Turns.{HasCommitted, HasEnrolled, HasHelped, HasStepped, HasStopped, first_entry}
use Rattle.bundle_work.specs.Reading.{IsReleased}
use Rattle.bundle_work.specs.declared.bundles.Worker.{Worker}
use Rattle.worker_loop.specs.Laws.{OnlyClaims}
use Rattle.worker_loop.specs.declared.workers.WorkerEnd.{WorkerEnd}
use Rattle.worker_loop.specs.declared.workers.WorkerEnd.TheVariants as end

-- whether a receipt was placed
abbrev pub Done : Type 0
Done = Result (Unit {0}) (Unit {0})

abbrev pub placed : Done
placed = Ok tt

abbrev pub unplaced : Done
unplaced = Err tt

-- ---- single turns

-- the worker ended for want of memory, and this turn stopped the book
abbrev pub HasGivenUp : Setting → Note (List Entry) → Note (List Entry) → Option WorkerEnd → Type 0
HasGivenUp setting m n result = (result ≡ Some end.NoMemory) × HasStopped setting m n

-- The worker helped another slot: a range was split, or none was found, or no memory to split it.
abbrev pub HasLooked : Setting → Note (List Entry) → Note (List Entry) → ℕ → Type 0
HasLooked setting m n i = (answer : Result (Option ℕ) (Unit {0})) × HasHelped setting m n i answer

-- the job failed: it is tried again, or its range in parts; or it was the last fail that it may have, which ends the run
abbrev pub HasFailed : Setting → Note (List Entry) → Note (List Entry) → ℕ → ℕ → Cause → Option WorkerEnd → Type 0
HasFailed setting m n i at cause None = HasStepped setting m n i (Fail at cause) Retried
HasFailed setting m n i at cause (Some end.Spent) = (note : FaultNote) × HasStepped setting m n i (Fail at cause) (Spent note)
HasFailed setting m n i at cause _ = ⊥

-- ---- a commit, and the second one

-- Two commits of one receipt: the first one found no memory, the worker gave up what it holds, and the second one is so answered.
pub record HasTriedTwice (setting : Setting) (m n : Note (List Entry)) (i : ℕ) (receipt : Receipt) (worker later : Worker) (answer : Done) : Type 0 where
  pub between : Note (List Entry)
  pub first : HasCommitted setting m between i receipt unplaced
  pub second : HasCommitted setting between n i receipt answer
  pub released : IsReleased worker later

-- The receipt was placed by one commit, and the worker is as it was; or by the second one. It isn't placed where both find no memory.
abbrev pub HasPlaced : {U E : Type 0} → Setting → Note (List Entry) → Note (List Entry) → ℕ → Receipt → Worker → Worker → Result U E → Type 0
HasPlaced setting m n i receipt worker later (Ok u) =
    (HasCommitted setting m n i receipt placed × (later ≡ worker)) ⊎ HasTriedTwice setting m n i receipt worker later placed
HasPlaced setting m n i receipt worker later (Err e) = HasTriedTwice setting m n i receipt worker later unplaced

-- the receipt was placed, or neither commit did so and the next turn stopped the book
abbrev pub HasHandedIn : Setting → Note (List Entry) → Note (List Entry) → ℕ → Receipt → Worker → Worker → Option WorkerEnd → Type 0
HasHandedIn setting m n i receipt worker later None = HasPlaced setting m n i receipt worker later placed
HasHandedIn setting m n i receipt worker later (Some e) =
    (mid : Note (List Entry)) × HasTriedTwice setting m mid i receipt worker later unplaced × HasGivenUp setting mid n (Some e)

-- ---- a round

-- What ended a job after its claims: a position was attempted, or it is a spent piece, and its receipt was handed in; or it failed, a range at a position that lies in it;
-- or there was no memory for the work.
abbrev pub EndsJob : Setting → Note (List Entry) → Note (List Entry) → ℕ → Option WorkerEnd → Type 0
EndsJob setting m n i result =
    ((receipt : Receipt) × (worker : Worker) × (later : Worker) × HasAttempted (first_entry m).job × HasHandedIn setting m n i receipt worker later result)
    ⊎ (((at : ℕ) × (cause : Cause) × FailsInside (first_entry m).job × HasFailed setting m n i at cause result) ⊎ HasGivenUp setting m n result)

-- What follows a take. Only where it finds no memory the worker gives up without a job; where it gets none while others work, it looks for a range to split and goes on.
abbrev pub FollowsTake : {E : Type 0} → Setting → Note (List Entry) → Note (List Entry) → ℕ → Result Taken E → Option WorkerEnd → Type 0
FollowsTake setting m n i (Ok (taken.Job job)) result = (k : Note (List Entry)) × OnlyClaims setting m k × EndsJob setting k n i result
FollowsTake setting m n i (Ok taken.Nothing) result = (result ≡ None) × HasLooked setting m n i
FollowsTake setting m n i (Ok taken.Finished) result = (result ≡ Some end.Finished) × (n ≡ m)
FollowsTake setting m n i (Ok taken.Stopped) result = (result ≡ Some end.Stopped) × (n ≡ m)
FollowsTake setting m n i (Err none) result = HasGivenUp setting m n result

-- one round: a take, and what follows it
pub record IsRound (setting : Setting) (m n : Note (List Entry)) (i : ℕ) (result : Option WorkerEnd) : Type 0 where
  pub answer : Result Taken (Unit {0})
  pub next : Note (List Entry)
  pub take : HasStepped setting m next i Take (take_answer answer)
  pub follows : FollowsTake setting next n i answer result

-- ---- all rounds

-- rounds after which the worker goes on, and the notes before them, that of the latest one first
abbrev pub AreRounds : Setting → ℕ → Note (List Entry) → List (Note (List Entry)) → Note (List Entry) → Type 0
AreRounds setting i m [] n = n ≡ m
AreRounds setting i m (k ∷ earlier) n = IsRound setting k n i None × AreRounds setting i m earlier k

-- there was no memory for a slot, or with a slot none for what a worker keeps
pub record HasNotBegun (setting : Setting) (m n : Note (List Entry)) (result : WorkerEnd) : Type 0 where
  pub answer : Result ℕ (Unit {0})
  pub next : Note (List Entry)
  pub enroll : HasEnrolled setting m next answer
  pub gave_up : HasGivenUp setting next n (Some result)

-- the worker got a slot and made rounds, and ended in the last one
pub record HasMadeRounds (setting : Setting) (m n : Note (List Entry)) (result : WorkerEnd) : Type 0 where
  pub slot : ℕ
  pub begun : Note (List Entry)
  pub earlier : List (Note (List Entry))
  pub last : Note (List Entry)
  pub enroll : HasEnrolled {E = Unit {0}} setting m begun (Ok slot)
  pub rounds : AreRounds setting slot begun earlier last
  pub ends : IsRound setting last n slot (Some result)

abbrev pub HasWorked : Setting → Note (List Entry) → Note (List Entry) → WorkerEnd → Type 0
HasWorked setting m n result = HasNotBegun setting m n result ⊎ HasMadeRounds setting m n result
