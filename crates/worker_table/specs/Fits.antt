-- When the book and the owners of its slots are what a note says of them.
use Rattle.std.specs.Prelude.{◌≡◌, ◌≢◌, ℕ, ◌<◌, ◌≤◌, List, [], ◌∷◌, length, slice_get, Option, Some, None}
use Rattle.std.specs.List.{AllByRecursion, sum_by}
use Rattle.turn_desk.specs.declared.held.Note.{Note}
use Rattle.book_core.specs.Book.{SeenBook, last_commit, slot_at}
use Rattle.book_core.specs.Jobs.{next_job}
use Rattle.book_core.specs.Runs.{HonestlyReached}
use Rattle.book_core.specs.Steps.{IsIdle, IsRunning}
use Rattle.known_jobs.specs.Jobs.{IsJobOf, KnownJob, Setting}
use Rattle.worker_table.specs.Notes.{Owner, owner_of, Ending, GoesOn, HasFinished, IsStopped, Entry}

-- ---- how a pass ended

-- no job is left, and none is worked
abbrev pub HasNoJobLeft : SeenBook → Type 0
HasNoJobLeft b = (next_job b ≡ None) × IsIdle b

abbrev pub IsEndingOf : SeenBook → Ending → Type 0
IsEndingOf b GoesOn = Unit {0}
IsEndingOf b HasFinished = HasNoJobLeft b
IsEndingOf b IsStopped = IsRunning b → ⊥

-- ---- what a note says

-- the pass has no slot and no job, and nothing failed; or the slot is the pass's, with its job and its fails
abbrev pub IsSlotOf : SeenBook → List Owner → ℕ → Option KnownJob → ℕ → ℕ → Option ℕ → Type 0
IsSlotOf b owners number known calls reads None = (known ≡ None) × (calls ≡ 0) × (reads ≡ 0)
IsSlotOf b owners number known calls reads (Some i) = (slice_get owners i ≡ Some (owner_of number calls reads)) × IsJobOf b.panes known (slot_at b i)

pub record FitsEntry (b : SeenBook) (owners : List Owner) (number : ℕ) (e : Entry) : Type 0 where
  -- no other slot is the pass's
  pub alone : (i : ℕ) (owner : Owner) → slice_get owners i ≡ Some owner → owner.number ≡ number → e.slot ≡ Some i
  pub slot : IsSlotOf b owners number e.job e.calls e.reads e.slot
  pub seen : e.seen ≤ last_commit b
  pub ending : IsEndingOf b e.ending

abbrev pub FitEntries : SeenBook → List Owner → List ℕ → List Entry → Type 0
FitEntries b owners [] [] = Unit {0}
FitEntries b owners (n ∷ ns) (e ∷ es) = FitsEntry b owners n e × FitEntries b owners ns es
FitEntries b owners _ _ = ⊥

abbrev pub OwnsNone : List Owner → ℕ → Type 0
OwnsNone owners number = (i : ℕ) (owner : Owner) → slice_get owners i ≡ Some owner → owner.number ≢ number

-- the book was reached by honest fails from the opening of this plan with these lengths and options
pub record IsBookOf (setting : Setting) (b : SeenBook) : Type 0 where
  pub reached : HonestlyReached setting.known b
  pub plan : b.plan ≡ setting.plan
  pub files : b.files ≡ setting.files
  pub options : b.options ≡ setting.options

-- Each slot has an owner, and the book counts no more fails than were made through its slots.
pub record AreOwners (b : SeenBook) (owners : List Owner) : Type 0 where
  pub each : length owners ≡ length b.slots
  pub calls : b.calls ≤ sum_by (λ owner. owner.calls) owners
  pub reads : b.reads ≤ sum_by (λ owner. owner.reads) owners
  pub numbers : AllByRecursion (λ owner. owner.number < 4294967296) owners

pub record Fits (setting : Setting) (b : SeenBook) (owners : List Owner) (note : Note (List Entry)) : Type 0 where
  pub book : IsBookOf setting b
  pub owners_of : AreOwners b owners
  pub entries : FitEntries b owners note.numbers note.about
  pub free : (n : ℕ) → 0 < n → n ≤ note.free → OwnsNone owners n

-- The book is of this plan, and in the slot that the pass has works the job that it knows.
pub record IsKnownIn (setting : Setting) (b : SeenBook) (e : Entry) : Type 0 where
  pub plan : b.plan ≡ setting.plan
  pub job : (i : ℕ) → e.slot ≡ Some i → IsJobOf b.panes e.job (slot_at b i)
