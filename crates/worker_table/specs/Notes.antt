-- What a note says of each of its passes.
use Rattle.std.specs.Prelude.{ℕ, [], Bool, false, Option, None}
use Rattle.book_core.specs.Book.{SeenBook}
use Rattle.book_core.specs.Runs.{MadeStep}
use Rattle.known_jobs.specs.Jobs.{KnownJob, Setting}

-- which pass owns a slot, and how many jobs failed through it, by the cause of the fault
pub record Owner : Type 0 where
  pub number : ℕ
  pub calls : ℕ
  pub reads : ℕ

abbrev pub owner_of : ℕ → ℕ → ℕ → Owner
owner_of number calls reads = record { number = number; calls = calls; reads = reads }

-- how the work of a pass ended, if it did
pub data Ending : Type 0 where
  GoesOn : Ending
  HasFinished : Ending
  IsStopped : Ending

-- the book that a turn lent, and the step that was made in it, if one was
pub record LastTurn : Type 0 where
  pub book : SeenBook
  pub made : Option MadeStep

-- what a note says of one pass
pub record Entry : Type 0 where
  pub slot : Option ℕ
  pub job : Option KnownJob
  -- it got no job while another slot worked, and has not looked for a range to split since
  pub owes_split : Bool
  pub calls : ℕ
  pub reads : ℕ
  pub ending : Ending
  -- the commits that the book had at its last turn
  pub seen : ℕ
  pub turns : ℕ
  pub last : Option LastTurn

-- of a pass that took no turn yet
abbrev pub fresh : Entry
fresh = record { slot = None; job = None; owes_split = false; calls = 0; reads = 0; ending = GoesOn; seen = 0; turns = 0; last = None }

-- a setting, of no run
abbrev pub no_setting : Setting
no_setting = record {
  known = record { told = None; strict = false };
  plan = record { version = 0; nodes = [] };
  files = [];
  options = record { workers = 0; bundle = 0; chunk = 0; attempts = 0 };
}
