-- What each call tells its pass, from the turn that it made.
use Rattle.std.proofs.Common.{◌≡◌, ℕ, List, Bool, false, refl, sym, ap, ◌∙◌, subst}
use Rattle.std.specs.Prelude.{Option, Some, None, Result, Ok, Err, IfErr, IsSomeAnd, slice_get}
use Rattle.beam_values.specs.declared.cell.Pane.{Pane}
use Rattle.beam_values.specs.declared.fault.Cause.{Cause}
use Rattle.beam_values.specs.declared.file_text.FileText.{FileText}
use Rattle.beam_values.specs.declared.plan.Plan.{Plan}
use Rattle.bundle_commit.specs.declared.job.Job.{Job}
use Rattle.bundle_commit.specs.declared.job.Receipt.{Receipt}
use Rattle.turn_desk.specs.declared.held.Note.{Note}
use Rattle.book_core.specs.Book.{SeenBook, slot_at}
use Rattle.book_core.specs.Calls.{failure_of, live_piece}
use Rattle.book_core.specs.Jobs.{attempted_of, job_of}
use Rattle.book_core.specs.Sane.{IsSane}
use Rattle.book_core.specs.Steps.{Action, Answer, CanCommit, Claim, Claimed, Commit, Fail, IsTaking, Take}
use Rattle.book_core.specs.Work.{IsGiven, Surroundings}
use Rattle.book_core.specs.declared.live.Failure.{Failure}
use Rattle.book_core.specs.declared.live.Failure.TheVariants as failure
use Rattle.book_core.specs.declared.live.Live.{Live}
use Rattle.book_core.specs.declared.live.Taken.{Taken}
use Rattle.book_core.specs.declared.live.Taken.TheVariants as taken
use Rattle.book_core.specs.declared.live.Unplaced.{Unplaced}
use Rattle.known_jobs.specs.Calls.{AfterClaim, CanCommitAs, EndsAt, IsJobIn, calls_after, reads_after}
use Rattle.worker_table.specs.Calls.{AfterCommit, AfterEnroll, AfterFail, AfterHelp, AfterStop, AfterTake, GoesOnAs, HasGot, KeepsSlot, Placing, commit_answer, enroll_answer, enrolled_slot, take_answer}
use Rattle.known_jobs.specs.Carried.{can_commit}
use Rattle.known_jobs.specs.Jobs.{KnownJob, Setting, known_at, known_in, setting_for}
use Rattle.worker_table.specs.Fits.{IsBookOf, IsSlotOf}
use Rattle.known_jobs.specs.Kept.{fail_leaves}
use Rattle.worker_table.specs.Moves.{Steps, slot_after}
use Rattle.worker_table.specs.Notes.{Owner, Entry, LastTurn}
use Rattle.worker_table.specs.Places.{set_here}
use Rattle.worker_table.specs.Turns.{HasCommitted, HasEnrolled, HasHelped, HasStepped, HasStopped, Turned, first_entry, number_in}
use Rattle.known_jobs.proofs.Claims.{claim_ends as ends_at, claim_told}
use Rattle.worker_table.proofs.Turning.{known_turned}

-- ---- a job that is known as the book has it

none_known : (panes : List Pane) (slot : Option (Option Live)) → slot ≡ Some None → known_in panes slot ≡ None
none_known panes slot e = ap (known_in panes) e

-- a receipt that can be placed can be placed as the job is known then
known_again : (setting : Setting) (b : SeenBook) (i : ℕ) (receipt : Receipt) → b.plan ≡ setting.plan → CanCommit None b i receipt → CanCommit setting.known.told b i receipt → CanCommitAs setting (known_at b i) receipt
known_again setting b i receipt plan any told = by (slot_at b i) refl
  where
    given : (files : Option (List FileText)) (job : Live) (can : CanCommit files b i receipt) → slot_at b i ≡ Some (Some job) → IsGiven files setting.plan (job_of b.panes job) (attempted_of job) receipt
    given files job can at =
        let both : Some (Some can.job) ≡ Some (Some job) = sym can.works ∙ at in
        let same : can.job ≡ job = cc in
        subst (λ (z : Plan × Live). IsGiven files z.0 (job_of b.panes z.1) (attempted_of z.1) receipt) (λ k. (plan k, same k)) can.given

    by : (slot : Option (Option Live)) → slot_at b i ≡ slot → CanCommitAs setting (known_in b.panes slot) receipt
    by (Some (Some job)) at = (given None job any at, given setting.known.told job told at)
    by (Some None) at = let none : Some None ≡ Some (Some any.job) = sym at ∙ any.works in cc
    by None at = let none : None ≡ Some (Some any.job) = sym at ∙ any.works in cc

module _ (setting : Setting) (m n : Note (List Entry)) (i : ℕ) where
  told_by : (action : Action) (answer : Answer) (turn : HasStepped setting m n i action answer) → (first_entry n).job ≡ known_at turn.back i
  told_by action answer turn = ap (λ (e : Entry). e.job) turn.first

  -- the slot is free afterwards
  job_none : (action : Action) (answer : Answer) (turn : HasStepped setting m n i action answer) → slot_at turn.back i ≡ Some None → (first_entry n).job ≡ None
  job_none action answer turn free = told_by action answer turn ∙ none_known turn.back.panes (slot_at turn.back i) free

  pub keeps_slot : (action : Action) (answer : Answer) → ((k : ℕ) → calls_after action k ≡ k) → ((k : ℕ) → reads_after action k ≡ k) → HasStepped setting m n i action answer → KeepsSlot (first_entry m) (first_entry n)
  keeps_slot action answer calls reads turn = record {
    slot = ap (λ (e : Entry). e.slot) turn.first;
    calls = ap (λ (e : Entry). e.calls) turn.first ∙ calls (first_entry m).calls;
    reads = ap (λ (e : Entry). e.reads) turn.first ∙ reads (first_entry m).reads;
  }

  -- a step that is neither a take nor a fail leaves what the pass owes and how it ended
  goes : {job : Option KnownJob} {last : Option LastTurn} {seen turns : ℕ} → first_entry n ≡ record (first_entry m) { job = job; last = last; seen = seen; turns = turns } → GoesOnAs (first_entry m) (first_entry n)
  goes {job} {last} {seen} {turns} first = record {
    keeps = record { slot = ap (λ (e : Entry). e.slot) first; calls = ap (λ (e : Entry). e.calls) first; reads = ap (λ (e : Entry). e.reads) first };
    owes = ap (λ (e : Entry). e.owes_split) first;
    ending = ap (λ (e : Entry). e.ending) first;
  }

  -- a book of the setting has the setting's plan and items
  same_setting : (b : SeenBook) → IsBookOf setting b → setting_for setting.known b ≡ setting
  same_setting b book = λ k. record { known = setting.known; plan = book.plan k; files = book.files k; options = book.options k }

  module _ (knows : (b new : SeenBook) (slot : ℕ) (job : Job) → IsTaking b slot job new → known_at new slot ≡ Some (record { job = job; attempted = None }))
      (inside : (known : Surroundings) (b new : SeenBook) (slot : ℕ) (job : Job) → IsSane b → IsTaking b slot job new → IsJobIn (setting_for known b) job)
      (sane : (b : SeenBook) → IsBookOf setting b → IsSane b) where
    pub take_tells : {E : Type 0} (answer : Result Taken E) → HasStepped setting m n i Take (take_answer answer) → AfterTake setting answer (first_entry m) (first_entry n)
    take_tells {E} (Ok (taken.Job job)) turn = (
      told_by Take (take_answer {E = E} (Ok (taken.Job job))) turn ∙ knows turn.lent turn.back i job turn.made,
      subst (λ (s : Setting). IsJobIn s job) (same_setting turn.lent turn.book) (inside setting.known turn.lent turn.back i job (sane turn.lent turn.book) turn.made),
      ap (λ (e : Entry). e.owes_split) turn.first,
      ap (λ (e : Entry). e.ending) turn.first,
    )
    take_tells {E} (Ok taken.Nothing) turn = (
      job_none Take (take_answer {E = E} (Ok taken.Nothing)) turn (ap (λ (b : SeenBook). slot_at b i) turn.made.4 ∙ turn.made.1),
      ap (λ (e : Entry). e.owes_split) turn.first,
      ap (λ (e : Entry). e.ending) turn.first,
    )
    take_tells {E} (Ok taken.Finished) turn = (
      job_none Take (take_answer {E = E} (Ok taken.Finished)) turn (ap (λ (b : SeenBook). slot_at b i) turn.made.4 ∙ turn.made.1),
      ap (λ (e : Entry). e.owes_split) turn.first,
      ap (λ (e : Entry). e.ending) turn.first,
    )
    take_tells {E} (Ok taken.Stopped) turn = (
      job_none Take (take_answer {E = E} (Ok taken.Stopped)) turn (ap (λ (b : SeenBook). slot_at b i) turn.made.2 ∙ turn.made.1),
      ap (λ (e : Entry). e.owes_split) turn.first,
      ap (λ (e : Entry). e.ending) turn.first,
    )
    take_tells {E} (Err e) turn = (
      job_none Take (take_answer {E = E} (Err e)) turn (ap (λ (b : SeenBook). slot_at b i) turn.made.1 ∙ turn.made.0),
      ap (λ (e : Entry). e.owes_split) turn.first,
      ap (λ (e : Entry). e.ending) turn.first,
    )

  pub claim_tells : (p : ℕ) (granted : Bool) → (first_entry m).slot ≡ Some i → HasStepped setting m n i (Claim p) (Claimed granted) → AfterClaim (first_entry m).job p granted (first_entry n).job
  claim_tells p granted slot turn =
      let fit = subst (IsSlotOf turn.lent turn.owners (number_in m.numbers) (first_entry m).job (first_entry m).calls (first_entry m).reads) slot turn.fit.slot in
      subst (λ (known : Option KnownJob). AfterClaim (first_entry m).job p granted known) (sym (told_by (Claim p) (Claimed granted) turn))
      (claim_told turn.lent turn.back i p granted (first_entry m).job fit.1 turn.made)

  pub claim_goes : (p : ℕ) (granted : Bool) → HasStepped setting m n i (Claim p) (Claimed granted) → GoesOnAs (first_entry m) (first_entry n)
  claim_goes p granted turn = goes turn.first

  -- the pass then knows the range that the slot works
  pub claim_ends : (p : ℕ) (granted : Bool) (end : ℕ) (makes : SeenBook → SeenBook → Type 0) (turn : Turned setting m n (Steps i (Claim p) (Claimed granted)) makes)
      → IsSomeAnd (live_piece turn.back i) (λ piece. piece.range.to ≡ end) → EndsAt (first_entry n).job end
  claim_ends p granted end makes turn is = subst (λ (known : Option KnownJob). EndsAt known end) (sym (ap (λ (e : Entry). e.job) turn.first)) (ends_at turn.back i end is)

  pub commit_tells : {U E : Type 0} (receipt : Receipt) (answer : Result U E) → HasCommitted setting m n i receipt answer → AfterCommit answer (first_entry n)
  commit_tells {U} {E} receipt (Ok u) turn =
      let made = turn.made.0 in
      ap (λ (e : Entry). e.job) turn.first
      ∙ none_known turn.back.panes (slot_at turn.back i) (ap (λ (b : SeenBook). slot_at b i) made.commit.is ∙ set_here turn.lent.slots i (Some made.job) None made.works)
  commit_tells {U} {E} receipt (Err e) turn = tt

  pub commit_goes : {U E : Type 0} (receipt : Receipt) (answer : Result U E) → HasCommitted setting m n i receipt answer → GoesOnAs (first_entry m) (first_entry n)
  commit_goes {U} {E} receipt (Ok u) turn = goes turn.first
  commit_goes {U} {E} receipt (Err e) turn = goes turn.first

  -- a receipt that was refused is handed back
  pub commit_back : {U : Type 0} (receipt : Receipt) (answer : Result U Unplaced) → Turned setting m n (Steps i Commit (commit_answer answer)) (λ b new. Placing b i receipt answer new) → IfErr answer (λ unplaced. unplaced.receipt ≡ receipt)
  commit_back {U} receipt (Ok u) turn = tt
  commit_back {U} receipt (Err unplaced) turn = turn.made.0

  -- and can be placed, as the job is known then
  pub commit_again : {U : Type 0} (receipt : Receipt) (answer : Result U Unplaced) → (first_entry m).slot ≡ Some i → CanCommitAs setting (first_entry m).job receipt → HasCommitted setting m n i receipt answer
      → IfErr answer (λ unplaced. unplaced.receipt ≡ receipt) → IfErr answer (λ unplaced. CanCommitAs setting (first_entry n).job unplaced.receipt)
  commit_again {U} receipt (Ok u) slot given turn back = tt
  commit_again {U} receipt (Err unplaced) slot given turn back =
      let can = can_commit setting turn.lent i (first_entry m).job turn.book.plan ((known_turned setting m n _ _ turn).job i slot) receipt given in
      let there : CanCommitAs setting (known_at turn.lent i) receipt = known_again setting turn.lent i receipt turn.book.plan can.0 can.1 in
      let job : (first_entry n).job ≡ known_at turn.lent i = ap (λ (e : Entry). e.job) turn.first ∙ ap (λ (b : SeenBook). known_at b i) turn.made.1 in
      subst (λ (z : Option KnownJob × Receipt). CanCommitAs setting z.0 z.1) (λ k. (sym job k, sym back k)) there

  fail_job : (at : ℕ) (cause : Cause) (answer : Answer) (turn : HasStepped setting m n i (Fail at cause) answer) → (first_entry n).job ≡ None
  fail_job at cause answer turn =
      let step = turn.made in
      job_none (Fail at cause) answer turn
      (ap (λ (b : SeenBook). slot_at b i) step.is ∙ ap (λ (s : List (Option Live)). slice_get s i) (fail_leaves turn.lent i at step.job cause).slots ∙ set_here turn.lent.slots i (Some step.job) None step.works.works)

  pub fail_tells : (at : ℕ) (cause : Cause) (failure : Failure) → HasStepped setting m n i (Fail at cause) (failure_of failure) → AfterFail at cause failure (first_entry m) (first_entry n)
  fail_tells at cause failure.Retry turn = record {
    job = fail_job at cause (failure_of failure.Retry) turn;
    calls = ap (λ (e : Entry). e.calls) turn.first;
    reads = ap (λ (e : Entry). e.reads) turn.first;
    ending = ap (λ (e : Entry). e.ending) turn.first;
    slot = ap (λ (e : Entry). e.slot) turn.first;
    owes = ap (λ (e : Entry). e.owes_split) turn.first;
  }
  fail_tells at cause (failure.Spent note) turn = record {
    job = fail_job at cause (failure_of (failure.Spent note)) turn;
    calls = ap (λ (e : Entry). e.calls) turn.first;
    reads = ap (λ (e : Entry). e.reads) turn.first;
    ending = ap (λ (e : Entry). e.ending) turn.first;
    slot = ap (λ (e : Entry). e.slot) turn.first;
    owes = ap (λ (e : Entry). e.owes_split) turn.first;
  }

-- ---- the other turns

pub help_tells : {E : Type 0} (setting : Setting) (m n : Note (List Entry)) (i : ℕ) (answer : Result (Option ℕ) E) → HasHelped setting m n i answer → AfterHelp (first_entry m) (first_entry n)
help_tells {E} setting m n i answer turn = by answer turn
  where
    after : {last : Option LastTurn} {seen turns : ℕ} → first_entry n ≡ record (first_entry m) { owes_split = false; last = last; seen = seen; turns = turns } → AfterHelp (first_entry m) (first_entry n)
    after {last} {seen} {turns} first = record {
      keeps = record { slot = ap (λ (e : Entry). e.slot) first; calls = ap (λ (e : Entry). e.calls) first; reads = ap (λ (e : Entry). e.reads) first };
      job = ap (λ (e : Entry). e.job) first;
      owes = ap (λ (e : Entry). e.owes_split) first;
      ending = ap (λ (e : Entry). e.ending) first;
    }

    by : (answer : Result (Option ℕ) E) → HasHelped setting m n i answer → AfterHelp (first_entry m) (first_entry n)
    by (Ok None) turn = after turn.first
    by (Ok (Some at)) (other, turn) = after turn.first
    by (Err e) (other, turn) = after turn.first

pub stop_tells : (setting : Setting) (m n : Note (List Entry)) → HasStopped setting m n → AfterStop (first_entry m) (first_entry n)
stop_tells setting m n turn = record {
  keeps = record { slot = ap (λ (e : Entry). e.slot) turn.first; calls = ap (λ (e : Entry). e.calls) turn.first; reads = ap (λ (e : Entry). e.reads) turn.first };
  job = ap (λ (e : Entry). e.job) turn.first;
  owes = ap (λ (e : Entry). e.owes_split) turn.first;
  ending = ap (λ (e : Entry). e.ending) turn.first;
}

none_yet : (b : SeenBook) (owners : List Owner) (number : ℕ) (known : Option KnownJob) (calls reads : ℕ) (slot : Option ℕ) → slot ≡ None → IsSlotOf b owners number known calls reads slot
    → (known ≡ None) × (calls ≡ 0) × (reads ≡ 0)
none_yet b owners number known calls reads None e fit = fit
none_yet b owners number known calls reads (Some i) e fit = let w : Some i ≡ None = e in cc

pub enroll_tells : {E : Type 0} (setting : Setting) (m n : Note (List Entry)) (answer : Result ℕ E) → (first_entry m).slot ≡ None → HasEnrolled setting m n answer → AfterEnroll answer (first_entry m) (first_entry n)
enroll_tells {E} setting m n answer none turn =
    let f = none_yet turn.lent turn.owners (number_in m.numbers) (first_entry m).job (first_entry m).calls (first_entry m).reads (first_entry m).slot none turn.fit.slot in
    record {
      slot = by answer (ap (λ (e : Entry). e.slot) turn.first);
      job = ap (λ (e : Entry). e.job) turn.first ∙ f.0;
      calls = ap (λ (e : Entry). e.calls) turn.first ∙ f.1;
      reads = ap (λ (e : Entry). e.reads) turn.first ∙ f.2;
      owes = ap (λ (e : Entry). e.owes_split) turn.first;
      ending = ap (λ (e : Entry). e.ending) turn.first;
    }
  where
    by : (answer : Result ℕ E) → (first_entry n).slot ≡ slot_after (enrolled_slot answer) (enroll_answer answer) (first_entry m).slot → HasGot answer (first_entry n)
    by (Ok i) is = is
    by (Err refused) is = is ∙ none
