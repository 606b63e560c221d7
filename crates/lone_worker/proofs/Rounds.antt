-- A round of one worker at a book: a job is taken, and committed or given back.
use Rattle.std.proofs.Common.{◌≡◌, ◌⊎◌, inl, inr, ℕ, ◌+◌, ◌<◌, ◌≤◌, Bool, true, false, not, ◌&&◌, List, [], ◌∷◌, ◌++◌, length, refl, sym, ap, subst, ◌∙◌, length-append, arith}
use Rattle.std.specs.Prelude.{Option, Some, None, slice_set}
use Rattle.beam_values.specs.declared.fault.Cause.{Cause}
use Rattle.beam_values.specs.declared.fault.Cause.TheVariants.{Call, Read}
use Rattle.beam_values.specs.declared.fault.FaultNote.{FaultNote}
use Rattle.beam_values.specs.declared.file_text.FileText.{FileText}
use Rattle.beam_values.specs.declared.outcome.StopCause.TheVariants as stop
use Rattle.beam_ports.specs.Counts.{greatest_count}
use Rattle.bundle_commit.specs.declared.job.Job.{Job}
use Rattle.bundle_commit.specs.declared.job.Receipt.{Receipt}
use Rattle.book_core.specs.Book.{SeenBook}
use Rattle.book_core.specs.Left.{BreaksNoEmpty, HasOffsets, rounds_left}
use Rattle.book_core.specs.Changes.{attempts_of, counted, ends_run, failed, failed_where, given_back, is_at_limit, is_broken, may_break, note_of, stopped_where, tried_again, with_slot}
use Rattle.book_core.specs.Sane.{IsSane}
use Rattle.book_core.specs.Steps.{Answer, Fail, IsCommitting, IsFailing, IsFailure, IsIdle, IsRunning, IsTaking, Retried, Spent}
use Rattle.book_core.specs.declared.live.Live.{Live}
use Rattle.book_core.specs.declared.live.Live.TheVariants as live
use Rattle.book_core.proofs.Failures.{below_limit, tried_at_most}
use Rattle.known_jobs.specs.Calls.{FailsInside, IsJobIn, calls_after, reads_after}
use Rattle.known_jobs.specs.Jobs.{Setting, known_at, known_in, setting_for}
use Rattle.known_jobs.specs.Kept.{fail_leaves, next_keep}
use Rattle.lone_worker.specs.Alone.{CountsFail, GoesOnOrEnds, HasAsMany, IsAloneEnd, IsBookIn, IsIdleBut, IsNextRound, IsShort, IsSpentBy}
use Rattle.lone_worker.specs.declared.alone.AloneEnd.{AloneEnd}
use Rattle.lone_worker.specs.declared.alone.AloneEnd.TheVariants as ends
use Rattle.lone_worker.proofs.Slots.{freed, same_slots, taken_but}

-- ---- a take

-- what a take leaves
pub record IsTaken (b : SeenBook) (slot : ℕ) (new : SeenBook) : Type 0 where
  pub running : IsRunning new
  pub slots : length new.slots ≡ length b.slots
  pub commits : new.commits ≡ b.commits
  pub calls : new.calls ≡ b.calls
  pub reads : new.reads ≡ b.reads
  pub others : IsIdle b → IsIdleBut new slot

pub taken_leaves : (b new : SeenBook) (slot : ℕ) (job : Job) → IsTaking b slot job new → IsTaken b slot new
taken_leaves b new slot job step =
    let keeps = next_keep b step.next step.is_next in
    let set : new.slots ≡ slice_set b.slots slot (Some step.next.job) =
    ap (λ (x : SeenBook). x.slots) step.is ∙ ap (λ (slots : List (Option Live)). slice_set slots slot (Some step.next.job)) keeps.slots in
    record {
      running = ap (λ (x : SeenBook). x.stopped) step.is ∙ keeps.stopped ∙ step.running;
      slots = same_slots b new slot (Some step.next.job) set;
      commits = ap (λ (x : SeenBook). x.commits) step.is ∙ keeps.commits;
      calls = ap (λ (x : SeenBook). x.calls) step.is ∙ keeps.calls;
      reads = ap (λ (x : SeenBook). x.reads) step.is ∙ keeps.reads;
      others = λ idle. taken_but b new slot step.next.job step.free idle set;
    }

-- a job lies in the setting of its book
pub in_setting : (setting : Setting) (b : SeenBook) (job : Job) → IsBookIn setting b → IsJobIn (setting_for setting.known b) job → IsJobIn setting job
in_setting setting b job is inside =
    subst (λ (s : Setting). IsJobIn s job) (λ k. record { known = setting.known; plan = is.plan k; files = is.files k; options = is.options k }) inside

-- ---- a commit

one_more : {X : Type 0} (xs ys : List X) (x : X) → ys ≡ xs ++ x ∷ [] → length ys ≡ length xs + 1
one_more xs ys x is = ap length is ∙ length-append xs (x ∷ [])

pub committed_round : (told : Option (List FileText)) (b new : SeenBook) (slot : ℕ) (receipt : Receipt) → IsCommitting told b slot receipt new → IsRunning b → IsIdleBut b slot → rounds_left new < rounds_left b
    → IsNextRound slot b new
committed_round told b new slot receipt step running others fewer =
    let set = ap (λ (x : SeenBook). x.slots) step.commit.is in
    let free = freed b new slot step.job step.works set others in
    let one = one_more b.commits new.commits _ (ap (λ (x : SeenBook). x.commits) step.commit.is) in
    record {
      free = free.0;
      rest = record { idle = free.1; slots = same_slots b new slot None set };
      running = ap (λ (x : SeenBook). x.stopped) step.commit.is ∙ running;
      commits = omega (arith, one);
      fewer = fewer;
    }

-- ---- a fail

back_stopped : (b : SeenBook) (job : Live) (at : ℕ) (cause : Cause) → (counted (given_back b job at cause) cause).stopped ≡ b.stopped
back_stopped b (live.Span piece attempted) at Call = refl
back_stopped b (live.Span piece attempted) at Read = refl
back_stopped b (live.Batch batch) at Call = refl
back_stopped b (live.Batch batch) at Read = refl
back_stopped b (live.Key turn) at Call = refl
back_stopped b (live.Key turn) at Read = refl

-- a job that may be tried again leaves the book running
tried_runs : (b : SeenBook) (slot : ℕ) (job : Live) (at : ℕ) (cause : Cause) → ends_run b job cause ≡ false → IsRunning b → IsRunning (tried_again b slot job at cause)
tried_runs b slot job at cause more running =
    ap (λ (spent : Bool). (stopped_where spent (counted (given_back (with_slot b slot None) job at cause) cause) (note_of job at cause)).stopped) more
    ∙ back_stopped (with_slot b slot None) job at cause ∙ running

-- and so does a range that is broken
retried_runs : (breaks : Bool) (b : SeenBook) (slot : ℕ) (job : Live) (at : ℕ) (cause : Cause) → ends_run b job cause ≡ false → IsRunning b → IsRunning (failed_where breaks b slot job at cause)
retried_runs true b slot (live.Span piece attempted) at cause more running = running
retried_runs true b slot (live.Batch batch) at cause more running = tried_runs b slot (live.Batch batch) at cause more running
retried_runs true b slot (live.Key turn) at cause more running = tried_runs b slot (live.Key turn) at cause more running
retried_runs false b slot job at cause more running = tried_runs b slot job at cause more running

-- a range that fails inside isn't empty
pub breaks_none : (b : SeenBook) (slot : ℕ) (cause : Cause) → FailsInside (known_at b slot) → BreaksNoEmpty b slot cause
breaks_none b slot cause inside = λ now works broken. by now (subst (λ (s : Option (Option Live)). FailsInside (known_in b.panes s)) works inside)
  where
    by : (now : Live) → FailsInside (known_in b.panes (Some (Some now))) → HasOffsets now
    by (live.Span piece None) inside = absurd inside
    by (live.Span piece (Some p)) inside = omega (arith, inside.0, inside.1)
    by (live.Batch batch) inside = tt
    by (live.Key turn) inside = tt

module _ (b new : SeenBook) (slot at : ℕ) (cause : Cause) (answer : Answer) (step : IsFailing b slot at cause answer new) where
  pub failed_round : answer ≡ Retried → IsRunning b → IsIdleBut b slot → rounds_left new < rounds_left b → IsNextRound slot b new
  failed_round again running others fewer =
      let leaves = fail_leaves b slot at step.job cause in
      let set = ap (λ (x : SeenBook). x.slots) step.is ∙ leaves.slots in
      let free = freed b new slot step.job step.works.works set others in
      let same : new.commits ≡ b.commits = ap (λ (x : SeenBook). x.commits) step.is ∙ leaves.commits in
      let more = subst (λ (a : Answer). IsFailure b step.job at cause a) again step.answers in
      let runs = subst IsRunning (sym step.is) (retried_runs (is_broken b step.job cause) b slot step.job at cause more running) in
      record { free = free.0; rest = record { idle = free.1; slots = same_slots b new slot None set }; running = runs; commits = omega (arith, ap length same); fewer = fewer }

  failed_commits : new.commits ≡ b.commits
  failed_commits = ap (λ (x : SeenBook). x.commits) step.is ∙ (fail_leaves b slot at step.job cause).commits

  failed_calls : new.calls ≤ calls_after (Fail at cause) b.calls
  failed_calls = subst (λ (x : SeenBook). x.calls ≤ calls_after (Fail at cause) b.calls) (sym step.is) (fail_leaves b slot at step.job cause).calls

  failed_reads : new.reads ≤ reads_after (Fail at cause) b.reads
  failed_reads = subst (λ (x : SeenBook). x.reads ≤ reads_after (Fail at cause) b.reads) (sym step.is) (fail_leaves b slot at step.job cause).reads

  pub failed_counts : (end : Option AloneEnd) → IsSpentBy cause end → CountsFail at cause b new end
  failed_counts end spent = record { calls = failed_calls; reads = failed_reads; spent = spent }

-- ---- a fail that stops the book

noted_cause : (job : Live) (at : ℕ) (cause : Cause) → (note_of job at cause).cause ≡ cause
noted_cause (live.Span piece attempted) at cause = refl
noted_cause (live.Batch batch) at cause = refl
noted_cause (live.Key turn) at cause = refl

noted_attempt : (job : Live) (at : ℕ) (cause : Cause) → (note_of job at cause).attempt ≡ attempts_of job + 1
noted_attempt (live.Span piece attempted) at cause = refl
noted_attempt (live.Batch batch) at cause = refl
noted_attempt (live.Key turn) at cause = refl

-- what ends the run isn't broken
never_broken : (at_limit breaks : Bool) → (at_limit && not breaks) ≡ true → (at_limit && breaks) ≡ false
never_broken true true ends = absurd (cc)
never_broken true false ends = refl
never_broken false breaks ends = refl

-- one more fail is counted, unless a count is at its end
pub record CountsMore (b new : SeenBook) : Type 0 where
  pub more : (n : ℕ) → n ≤ b.calls + b.reads → n < 1000 → b.calls ≤ greatest_count → b.reads ≤ greatest_count → n + 1 ≤ new.calls + new.reads

counts_more : (b : SeenBook) (job : Live) (at : ℕ) (cause : Cause) → CountsMore b (counted (given_back b job at cause) cause)
counts_more b (live.Span piece attempted) at Call = record { more = λ n few low calls reads. omega (arith, few, low, calls, reads) }
counts_more b (live.Span piece attempted) at Read = record { more = λ n few low calls reads. omega (arith, few, low, calls, reads) }
counts_more b (live.Batch batch) at Call = record { more = λ n few low calls reads. omega (arith, few, low, calls, reads) }
counts_more b (live.Batch batch) at Read = record { more = λ n few low calls reads. omega (arith, few, low, calls, reads) }
counts_more b (live.Key turn) at Call = record { more = λ n few low calls reads. omega (arith, few, low, calls, reads) }
counts_more b (live.Key turn) at Read = record { more = λ n few low calls reads. omega (arith, few, low, calls, reads) }

failed_more : (b : SeenBook) (slot at : ℕ) (job : Live) (cause : Cause) → ends_run b job cause ≡ true → CountsMore b (failed b slot job at cause)
failed_more b slot at job cause ends =
    let back = counted (given_back (with_slot b slot None) job at cause) cause in
    let all = never_broken (is_at_limit b job) (may_break b.plan job cause) ends in
    subst (λ (t : Bool). CountsMore b (failed_where t b slot job at cause)) (sym all)
    (subst (λ (t : Bool). CountsMore b (stopped_where t back (note_of job at cause))) (sym ends) (record { more = (counts_more (with_slot b slot None) job at cause).more }))

module _ (b new : SeenBook) (slot at : ℕ) (cause : Cause) (note : FaultNote) (step : IsFailing b slot at cause (Spent note) new) where
  -- its note tells its attempts, and no more than fails were counted
  pub spent_stops : IsSane b → IsRunning b → GoesOnOrEnds slot b (Some (ends.Spent note)) new
  spent_stops sane running =
      let job = step.job in
      let stopped = ap (λ (x : SeenBook). x.stopped) step.is ∙ (fail_leaves b slot at job cause).noted step.answers.0 running ∙ ap (λ (n : FaultNote). Some (stop.Spent n)) (sym step.answers.1) in
      let attempt : note.attempt ≡ attempts_of job + 1 = ap (λ (n : FaultNote). n.attempt) step.answers.1 ∙ noted_attempt job at cause in
      let few : attempts_of job < 1000 = omega (arith, below_limit b slot job sane step.works.works step.works.fresh, sane.formed.allowed.attempts.1) in
      let more = (failed_more b slot at job cause step.answers.0).more (attempts_of job) (tried_at_most b slot job sane step.works.works) few sane.attempts.calls sane.attempts.reads in
      let most = subst (λ (x : SeenBook). attempts_of job + 1 ≤ x.calls + x.reads) (sym step.is) more in
      ((stopped, subst (λ (n : ℕ). n ≤ new.calls + new.reads) (sym attempt) most), failed_commits b new slot at cause (Spent note) step)

  pub spent_by : note.cause ≡ cause
  spent_by = ap (λ (n : FaultNote). n.cause) step.answers.1 ∙ noted_cause step.job at cause

-- ---- what came before a round changed nothing that its end speaks of

-- a book that runs is not found stopped
pub ended_from : (b mid new : SeenBook) (end : AloneEnd) → (mid ≡ b) ⊎ IsRunning mid → length mid.slots ≡ length b.slots → IsAloneEnd None end mid new → IsAloneEnd None end b new
ended_from b mid new ends.Stopped (inl same) slots ended = subst (λ (x : SeenBook). IsAloneEnd None ends.Stopped x new) same ended
ended_from b mid new ends.Stopped (inr running) slots ended = absurd (ended.0 running)
ended_from b mid new ends.Finished before slots ended = (ended.0, ended.1, record { idle = ended.2.idle; slots = ended.2.slots ∙ slots }, tt)
ended_from b mid new ends.Paused before slots ended = absurd ended.2
ended_from b mid new (ends.Spent note) before slots ended = ended
ended_from b mid new ends.NoMemory before slots ended = ended

pub ends_from : (slot : ℕ) (b mid new : SeenBook) (end : Option AloneEnd) → IsRunning mid → length mid.slots ≡ length b.slots → mid.commits ≡ b.commits → rounds_left mid ≤ rounds_left b → GoesOnOrEnds slot mid end new
    → GoesOnOrEnds slot b end new
ends_from slot b mid new None running slots same most next = record {
  free = next.free;
  rest = record { idle = next.rest.idle; slots = next.rest.slots ∙ slots };
  running = next.running;
  commits = omega (arith, ap length same, next.commits);
  fewer = omega (arith, most, next.fewer);
}
ends_from slot b mid new (Some end) running slots same most ended = (ended_from b mid new end (inr running) slots ended.0, ended.1 ∙ same)

-- ---- a number of commits is asked for

-- fewer were there before, and a round makes one at most
abbrev pub IsNoMore : Option ℕ → SeenBook → SeenBook → Type 0
IsNoMore None b new = Unit {0}
IsNoMore (Some most) b new = length b.commits ≤ most → length new.commits ≤ most

pub no_more : (most : Option ℕ) (b : SeenBook) → IsNoMore most b b
no_more None b = tt
no_more (Some most) b = λ few. few

pub no_more_on : (most : Option ℕ) (b mid new : SeenBook) → IsShort most mid → length new.commits ≤ length mid.commits + 1 → IsNoMore most b new
no_more_on None b mid new short one = tt
no_more_on (Some most) b mid new short one = λ few. omega (arith, short, one)

pub paused : (most : Option ℕ) (b new : SeenBook) → HasAsMany most new → IsNoMore most b new → (new ≡ b) ⊎ IsRunning new → IsIdle new → length new.slots ≡ length b.slots → IsAloneEnd most ends.Paused b new
paused None b new many none begun idle slots = absurd many
paused (Some most) b new many none begun idle slots = (runs begun, record { idle = idle; slots = slots }, (many, λ few. omega (arith, many, none few)))
  where
    runs : (new ≡ b) ⊎ IsRunning new → IsRunning b → IsRunning new
    runs (inl same) running = subst IsRunning (sym same) running
    runs (inr running) before = running

still_short : (most : Option ℕ) (mid new : SeenBook) → new.commits ≡ mid.commits → IsShort most mid → IsShort most new
still_short None mid new same short = tt
still_short (Some most) mid new same short = omega (arith, ap length same, short)

asked : (most : Option ℕ) (b new : SeenBook) (end : AloneEnd) → IsShort most new → IsAloneEnd None end b new → IsAloneEnd most end b new
asked most b new ends.Finished short ended = (ended.0, ended.1, ended.2, short)
asked most b new ends.Paused short ended = absurd ended.2
asked most b new ends.Stopped short ended = ended
asked most b new (ends.Spent note) short ended = ended
asked most b new ends.NoMemory short ended = ended

-- a round ends the work
pub round_ends : (most : Option ℕ) (slot : ℕ) (b mid new : SeenBook) (end : AloneEnd) → (mid ≡ b) ⊎ IsRunning mid → length mid.slots ≡ length b.slots → IsShort most mid → GoesOnOrEnds slot mid (Some end) new
    → IsAloneEnd most end b new
round_ends most slot b mid new end before slots short ended = asked most b new end (still_short most mid new ended.1 short) (ended_from b mid new end before slots ended.0)
