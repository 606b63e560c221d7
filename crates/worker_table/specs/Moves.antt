-- What a pass may do in a turn: one deed, from which the change of the book and the new note follow.
use Rattle.std.specs.Prelude.{◌≡◌, ℕ, ◌+◌, Bool, true, false, List, [], ◌∷◌, ◌++◌, slice_set, unwrap_or, Option, Some, None}
use Rattle.turn_desk.specs.declared.held.Note.{Note}
use Rattle.book_core.specs.Book.{SeenBook, last_commit}
use Rattle.book_core.specs.Runs.{IsHonestAction}
use Rattle.book_core.specs.Steps.{Action, Answer, Enroll, Enrolled, Fail, Finished, IsNextFor, Noted, Nothing, Spent, Split, Step, Stop, Stopped, Take}
use Rattle.book_core.specs.Work.{Surroundings}
use Rattle.known_jobs.specs.Calls.{calls_after, reads_after}
use Rattle.known_jobs.specs.Jobs.{known_at}
use Rattle.worker_table.specs.Notes.{Owner, owner_of, Ending, HasFinished, IsStopped, LastTurn, Entry, fresh}

pub data Deed : Type 0 where
  -- a step of the pass's own slot
  Steps : ℕ → Action → Answer → Deed
  Stops : Deed
  -- the pass gets this slot, or there was no memory for one
  Enrolls : ℕ → Answer → Deed
  -- no other slot works a range that can be split
  FindsNone : Deed
  -- the range of another slot is split
  Helps : ℕ → Answer → Deed

-- a slot is asked for by a deed of its own
abbrev pub IsOwnAction : Action → Type 0
IsOwnAction Enroll = ⊥
IsOwnAction _ = Unit {0}

-- ---- what a step leaves of what is noted

abbrev pub ending_after : Action → Answer → Ending → Ending
ending_after Take Finished ending = HasFinished
ending_after Take Stopped ending = IsStopped
ending_after (Fail at cause) (Spent note) ending = IsStopped
ending_after Stop Noted ending = IsStopped
ending_after _ _ ending = ending

abbrev pub owes_after : Action → Answer → Bool → Bool
owes_after Take Nothing owes = true
owes_after _ _ owes = owes

-- the slot that an enroll answers, or the one from before
abbrev pub slot_after : ℕ → Answer → Option ℕ → Option ℕ
slot_after i (Enrolled number) slot = Some i
slot_after i _ slot = slot

abbrev pub made_in : SeenBook → ℕ → Action → Answer → Option LastTurn
made_in b slot action answer = Some (record { book = b; made = Some (record { slot = slot; action = action; answer = answer }) })

abbrev pub none_in : SeenBook → Option LastTurn
none_in b = Some (record { book = b; made = None })

-- one turn more, after which the book is b'
abbrev pub turned : Entry → Option LastTurn → SeenBook → Entry
turned e last b' = record e { seen = last_commit b'; turns = e.turns + 1; last = last }

-- What the note says of the pass after its turn, from the book as it was lent and as it was given back. A step of a pass without a slot is noted at slot 0: its stop, and
-- its enroll where there was no memory.
abbrev pub entry_after : Deed → SeenBook → Entry → SeenBook → Entry
entry_after (Steps i action answer) b e b' = record (turned e (made_in b i action answer) b') {
  job = known_at b' i;
  owes_split = owes_after action answer e.owes_split;
  calls = calls_after action e.calls;
  reads = reads_after action e.reads;
  ending = ending_after action answer e.ending;
}
entry_after Stops b e b' = record (turned e (made_in b (unwrap_or e.slot 0) Stop Noted) b') { ending = IsStopped }
entry_after (Enrolls i answer) b e b' = record (turned e (made_in b i Enroll answer) b') { slot = slot_after i answer e.slot }
entry_after FindsNone b e b' = record (turned e (none_in b) b') { owes_split = false }
entry_after (Helps i answer) b e b' = record (turned e (made_in b i (Split 1 2) answer) b') { owes_split = false }

abbrev pub first_after : Deed → SeenBook → List Entry → SeenBook → List Entry
first_after deed b [] b' = []
first_after deed b (e ∷ es) b' = entry_after deed b e b' ∷ es

-- nothing is changed of a note but what it says of the pass that moves
abbrev pub note_after : Deed → SeenBook → Note (List Entry) → SeenBook → Note (List Entry)
note_after deed b note b' = record note { about = first_after deed b note.about b' }

-- what a note says of its own pass, and that pass's own number
abbrev pub entry_in : List Entry → Entry
entry_in [] = fresh
entry_in (e ∷ es) = e

abbrev pub number_in : List ℕ → ℕ
number_in [] = 0
number_in (n ∷ ns) = n

-- ---- the deeds

-- what a pass with this entry does to the book
abbrev pub Does : Surroundings → Entry → SeenBook → Deed → SeenBook → Type 0
Does known e b (Steps i action answer) b' = (e.slot ≡ Some i) × IsOwnAction action × Step known.told b i action answer b' × IsHonestAction known b i action
Does known e b Stops b' = Step known.told b 0 Stop Noted b'
Does known e b (Enrolls i answer) b' = (e.slot ≡ None) × Step known.told b i Enroll answer b'
Does known e b FindsNone b' = (slot : ℕ) × (e.slot ≡ Some slot) × IsNextFor b slot None × (b' ≡ b)
Does known e b (Helps i answer) b' = (slot : ℕ) × (e.slot ≡ Some slot) × IsNextFor b slot (Some i) × Step known.told b i (Split 1 2) answer b'

-- the owners of its slots then, where the pass has this number
abbrev pub owners_after : ℕ → Entry → Deed → List Owner → List Owner
owners_after number e (Steps i action answer) owners = slice_set owners i (owner_of number (calls_after action e.calls) (reads_after action e.reads))
owners_after number e (Enrolls i (Enrolled got)) owners = owners ++ owner_of number 0 0 ∷ []
owners_after number e _ owners = owners

-- the changes that a pass may make in one turn
pub record Moves (known : Surroundings) (b : SeenBook) (owners : List Owner) (m : Note (List Entry)) (b' : SeenBook) (owners' : List Owner) (n : Note (List Entry)) : Type 0 where
  pub deed : Deed
  pub does : Does known (entry_in m.about) b deed b'
  pub owners_of : owners' ≡ owners_after (number_in m.numbers) (entry_in m.about) deed owners
  pub note : n ≡ note_after deed b m b'
