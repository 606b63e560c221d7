-- What one turn of a pass did.
use Rattle.std.specs.Prelude.{◌≡◌, ℕ, List, [], ◌∷◌, length, Option, Some, None, Result, Ok, Err}
use Rattle.bundle_commit.specs.declared.job.Receipt.{Receipt}
use Rattle.turn_desk.specs.declared.held.Note.{Note}
use Rattle.book_core.specs.Book.{SeenBook}
use Rattle.book_core.specs.Steps.{Action, Answer, CanCommit, Commit, Committed, Enroll, IsCommitting, IsNextFor, IsWithinLimits, NoMemory, Noted, Split, SplitAt, Step, Stop}
use Rattle.worker_table.specs.Calls.{enroll_answer, enroll_deed, enrolled_slot}
use Rattle.worker_table.specs.Fits.{Fits, FitsEntry, IsBookOf}
use Rattle.worker_table.specs.Moves.{Deed, Steps, Stops, FindsNone, Helps, entry_after, note_after}
pub use Rattle.worker_table.specs.Moves.{entry_in, number_in}
use Rattle.known_jobs.specs.Jobs.{Setting}
use Rattle.worker_table.specs.Notes.{Owner, Entry}

-- what a note says of its own pass
abbrev pub first_entry : Note (List Entry) → Entry
first_entry note = entry_in note.about

-- One turn: the book that it lent, the book that it gave back, and the new note, which is that after the deed. The book that was lent fits the old note, for some
-- owners of its slots, and so the pass's own entry.
pub record Turned (setting : Setting) (m n : Note (List Entry)) (deed : Deed) (makes : SeenBook → SeenBook → Type 0) : Type 0 where
  pub lent : SeenBook
  pub back : SeenBook
  pub book : IsBookOf setting lent
  pub owners : List Owner
  pub fits : Fits setting lent owners m
  pub fit : FitsEntry lent owners (number_in m.numbers) (first_entry m)
  pub made : makes lent back
  pub note : n ≡ note_after deed lent m back
  pub first : first_entry n ≡ entry_after deed lent (first_entry m) back

-- a turn with one step of the pass's own slot
abbrev pub HasStepped : Setting → Note (List Entry) → Note (List Entry) → ℕ → Action → Answer → Type 0
HasStepped setting m n i action answer = Turned setting m n (Steps i action answer) (λ b b'. Step setting.known.told b i action answer b')

-- A turn in which the receipt of the slot's job was placed, and no other; or there was no memory for that, and it can be placed at any later turn.
abbrev pub HasCommitted : {U E : Type 0} → Setting → Note (List Entry) → Note (List Entry) → ℕ → Receipt → Result U E → Type 0
HasCommitted setting m n i receipt (Ok u) = Turned setting m n (Steps i Commit Committed) (λ b b'. IsCommitting setting.known.told b i receipt b' × IsWithinLimits b')
HasCommitted setting m n i receipt (Err e) = Turned setting m n (Steps i Commit NoMemory) (λ b b'. CanCommit setting.known.told b i receipt × (b' ≡ b))

-- a turn in which the pass got the next slot, or there was no memory for one
abbrev pub HasEnrolled : {E : Type 0} → Setting → Note (List Entry) → Note (List Entry) → Result ℕ E → Type 0
HasEnrolled setting m n answer = Turned setting m n (enroll_deed answer) (λ b b'. Step setting.known.told b (enrolled_slot answer) Enroll (enroll_answer answer) b')

abbrev pub HasStopped : Setting → Note (List Entry) → Note (List Entry) → Type 0
HasStopped setting m n = Turned setting m n Stops (λ b b'. Step setting.known.told b 0 Stop Noted b')

-- A turn in which the pass of a slot helped another one: no slot was found, or one was and its range was split at a half, or there was no memory for that.
abbrev pub HasHelped : {E : Type 0} → Setting → Note (List Entry) → Note (List Entry) → ℕ → Result (Option ℕ) E → Type 0
HasHelped setting m n slot (Ok None) = Turned setting m n FindsNone (λ b b'. IsNextFor b slot None × (b' ≡ b))
HasHelped setting m n slot (Ok (Some at)) =
    (other : ℕ) × Turned setting m n (Helps other (SplitAt (Some at))) (λ b b'. IsNextFor b slot (Some other) × Step setting.known.told b other (Split 1 2) (SplitAt (Some at)) b')
HasHelped setting m n slot (Err e) = (other : ℕ) × Turned setting m n (Helps other NoMemory) (λ b b'. IsNextFor b slot (Some other) × (b' ≡ b))

abbrev pub later_of : List Entry → List Entry
later_of [] = []
later_of (e ∷ es) = es

-- a turn changes nothing of a note but what it says of the pass itself
pub record KeepsOthers (m n : Note (List Entry)) : Type 0 where
  pub numbers : n.numbers ≡ m.numbers
  pub free : n.free ≡ m.free
  pub others : later_of n.about ≡ later_of m.about
  pub count : length n.about ≡ length m.about
