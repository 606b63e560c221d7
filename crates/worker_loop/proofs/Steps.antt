-- From what the calls of a table say of one turn to what is said of a worker's turns.
use Rattle.std.proofs.Common.{◌≡◌, ℕ, List, subst}
use Rattle.std.specs.Prelude.{Option, Some, None, Result, Ok, Err, IsSomeAnd}
use Rattle.turn_desk.specs.declared.held.Note.{Note}
use Rattle.known_jobs.specs.Jobs.{Setting}
use Rattle.book_core.specs.Calls.{answer_of}
use Rattle.book_core.specs.Steps.{NoMemory, Take}
use Rattle.book_core.specs.declared.live.Taken.{Taken}
use Rattle.worker_table.specs.Calls.{take_answer}
use Rattle.worker_table.specs.Notes.{Entry}
use Rattle.worker_table.specs.Turns.{HasEnrolled, HasHelped, HasStepped}
use Rattle.worker_loop.specs.Rounds.{FollowsTake, HasGivenUp, HasLooked, HasNotBegun, IsRound}
use Rattle.worker_loop.specs.declared.workers.WorkerEnd.{WorkerEnd}

-- what is so of whichever slot the pass has is so of this one
pub at_slot : (P : ℕ → Type 0) (at : Option ℕ) (i : ℕ) → at ≡ Some i → IsSomeAnd at P → P i
at_slot P at i same turn = subst (λ (o : Option ℕ). IsSomeAnd o P) same turn

pub looked : {E : Type 0} (setting : Setting) (m n : Note (List Entry)) (i : ℕ) (answer : Result (Option ℕ) E) → HasHelped setting m n i answer → HasLooked setting m n i
looked setting m n i (Ok None) turn = (Ok None, turn)
looked setting m n i (Ok (Some at)) turn = (Ok (Some at), turn)
looked setting m n i (Err e) turn = (Err tt, turn)

-- a round, by the answer of its take
pub round_of : (E : Type 0) (setting : Setting) (m next n : Note (List Entry)) (at : Option ℕ) (i : ℕ) (given answer : Taken) (result : Option WorkerEnd) → at ≡ Some i → given ≡ answer
    → IsSomeAnd at (λ k. HasStepped setting m next k Take (take_answer {E = E} (Ok given))) → FollowsTake {E = Unit {0}} setting next n i (Ok answer) result → IsRound setting m n i result
round_of E setting m next n at i given answer result same is turn follows = record {
  answer = Ok answer;
  next = next;
  take = subst (λ (t : Taken). HasStepped setting m next i Take (answer_of t)) is (at_slot (λ k. HasStepped setting m next k Take (answer_of given)) at i same turn);
  follows = follows;
}

pub round_refused : {E : Type 0} (setting : Setting) (m next n : Note (List Entry)) (at : Option ℕ) (i : ℕ) (none : E) (result : Option WorkerEnd) → at ≡ Some i
    → IsSomeAnd at (λ k. HasStepped setting m next k Take (take_answer (Err none))) → HasGivenUp setting next n result → IsRound setting m n i result
round_refused setting m next n at i none result same turn gave_up = record { answer = Err tt; next = next; take = at_slot (λ k. HasStepped setting m next k Take NoMemory) at i same turn; follows = gave_up }

-- the worker gave up right after it enrolled, or could not
pub not_begun : {E : Type 0} (setting : Setting) (m next n : Note (List Entry)) (answer : Result ℕ E) (result : WorkerEnd) → HasEnrolled setting m next answer → HasGivenUp setting next n (Some result)
    → HasNotBegun setting m n result
not_begun setting m next n (Ok i) result enroll gave_up = record { answer = Ok i; next = next; enroll = enroll; gave_up = gave_up }
not_begun setting m next n (Err e) result enroll gave_up = record { answer = Err tt; next = next; enroll = enroll; gave_up = gave_up }
