-- What takes and fails leave of the lists by which jobs are known, and what fails count.
use Rattle.std.proofs.Common.{◌≡◌, ℕ, ◌≤◌, true, false, Bool, not, ◌&&◌, refl, sym, ap, subst, ◌∙◌, arith}
use Rattle.std.specs.Prelude.{Option, Some, None, slice_set}
use Rattle.beam_values.specs.declared.fault.Cause.{Cause}
use Rattle.beam_values.specs.declared.fault.Cause.TheVariants.{Call, Read}
use Rattle.beam_values.specs.declared.fault.FaultNote.{FaultNote}
use Rattle.beam_values.specs.declared.outcome.StopCause.{StopCause}
use Rattle.beam_values.specs.declared.outcome.StopCause.TheVariants as stop
use Rattle.beam_values.specs.declared.piece.Piece.{Piece}
use Rattle.book_core.specs.Book.{SeenBook}
use Rattle.book_core.specs.Changes.{with_slot, broken, counted, ends_run, failed, failed_where, given_back, is_at_limit, is_broken, may_break, note_of, or_stopped, stopped_where, tried_again}
use Rattle.book_core.specs.Jobs.{Next, next_job}
use Rattle.book_core.specs.Steps.{Fail, IsRunning}
use Rattle.book_core.specs.declared.live.Live.{Live}
use Rattle.book_core.specs.declared.live.Live.TheVariants as live
use Rattle.book_core.proofs.Broken.{never_read}
use Rattle.book_core.proofs.Taking.{take_cases}
use Rattle.known_jobs.specs.Calls.{calls_after, reads_after}

pub record KeepsLists (b c : SeenBook) : Type 0 where
  pub slots : c.slots ≡ b.slots
  pub commits : c.commits ≡ b.commits
  pub panes : c.panes ≡ b.panes
  pub stopped : c.stopped ≡ b.stopped
  pub calls : c.calls ≡ b.calls
  pub reads : c.reads ≡ b.reads

pub next_keep : (b : SeenBook) (next : Next) → next_job b ≡ Some next → KeepsLists b next.rest
next_keep b next is =
    take_cases b (λ (n : Next). KeepsLists b n.rest)
    (λ batch among. record { slots = refl; commits = refl; panes = refl; stopped = refl; calls = refl; reads = refl })
    (λ batch oldest. record { slots = refl; commits = refl; panes = refl; stopped = refl; calls = refl; reads = refl })
    (λ place cell found. record { slots = refl; commits = refl; panes = refl; stopped = refl; calls = refl; reads = refl })
    (λ piece later e. record { slots = refl; commits = refl; panes = refl; stopped = refl; calls = refl; reads = refl })
    next is

back_keeps : (b : SeenBook) (job : Live) (at : ℕ) (cause : Cause) → KeepsLists b (given_back b job at cause)
back_keeps b (live.Span piece attempted) at cause = record { slots = refl; commits = refl; panes = refl; stopped = refl; calls = refl; reads = refl }
back_keeps b (live.Batch batch) at cause = record { slots = refl; commits = refl; panes = refl; stopped = refl; calls = refl; reads = refl }
back_keeps b (live.Key turn) at cause = record { slots = refl; commits = refl; panes = refl; stopped = refl; calls = refl; reads = refl }

-- ---- a fail

pub record LeavesAtFail (b : SeenBook) (slot at : ℕ) (cause : Cause) (spent : Bool) (note : FaultNote) (new : SeenBook) : Type 0 where
  pub slots : new.slots ≡ slice_set b.slots slot None
  pub commits : new.commits ≡ b.commits
  pub panes : new.panes ≡ b.panes
  pub stopped : (IsRunning b → ⊥) → IsRunning new → ⊥
  pub spent_stops : spent ≡ true → IsRunning new → ⊥
  pub noted : spent ≡ true → IsRunning b → new.stopped ≡ Some (stop.Spent note)
  pub calls : new.calls ≤ calls_after (Fail at cause) b.calls
  pub reads : new.reads ≤ reads_after (Fail at cause) b.reads

pub none_some : {X : Type 0} (x : X) → Some x ≡ None → ⊥
none_some x e = cc

-- a cause of a stop is kept, or is new
pub or_some : (kept : Option StopCause) (new : StopCause) → or_stopped kept new ≡ None → ⊥
or_some None new e = none_some new e
or_some (Some kept) new e = none_some kept e

cause_leaves : (b back : SeenBook) (slot at : ℕ) (cause : Cause) (spent : Bool) (note : FaultNote) → KeepsLists (with_slot b slot None) back
    → LeavesAtFail b slot at cause spent note (stopped_where spent (counted back cause) note)
cause_leaves b back slot at Call true note keeps = record {
  slots = keeps.slots;
  commits = keeps.commits;
  panes = keeps.panes;
  stopped = λ h running. or_some back.stopped (stop.Spent note) running;
  spent_stops = λ e running. or_some back.stopped (stop.Spent note) running;
  noted = λ e running. ap (λ (kept : Option StopCause). or_stopped kept (stop.Spent note)) (keeps.stopped ∙ running);
  calls = let k = keeps.calls in omega (arith, k);
  reads = let k = keeps.reads in omega (arith, k);
}
cause_leaves b back slot at Read true note keeps = record {
  slots = keeps.slots;
  commits = keeps.commits;
  panes = keeps.panes;
  stopped = λ h running. or_some back.stopped (stop.Spent note) running;
  spent_stops = λ e running. or_some back.stopped (stop.Spent note) running;
  noted = λ e running. ap (λ (kept : Option StopCause). or_stopped kept (stop.Spent note)) (keeps.stopped ∙ running);
  calls = let k = keeps.calls in omega (arith, k);
  reads = let k = keeps.reads in omega (arith, k);
}
cause_leaves b back slot at Call false note keeps = record {
  slots = keeps.slots;
  commits = keeps.commits;
  panes = keeps.panes;
  stopped = λ h running. h (sym keeps.stopped ∙ running);
  spent_stops = λ e running. cc;
  noted = λ e running. absurd (cc);
  calls = let k = keeps.calls in omega (arith, k);
  reads = let k = keeps.reads in omega (arith, k);
}
cause_leaves b back slot at Read false note keeps = record {
  slots = keeps.slots;
  commits = keeps.commits;
  panes = keeps.panes;
  stopped = λ h running. h (sym keeps.stopped ∙ running);
  spent_stops = λ e running. cc;
  noted = λ e running. absurd (cc);
  calls = let k = keeps.calls in omega (arith, k);
  reads = let k = keeps.reads in omega (arith, k);
}

tried_leaves : (b : SeenBook) (slot at : ℕ) (job : Live) (cause : Cause) → LeavesAtFail b slot at cause (ends_run b job cause) (note_of job at cause) (tried_again b slot job at cause)
tried_leaves b slot at job cause = cause_leaves b (given_back (with_slot b slot None) job at cause) slot at cause (ends_run b job cause) (note_of job at cause) (back_keeps (with_slot b slot None) job at cause)

-- a range that is broken goes on in its parts
broken_leaves : (b : SeenBook) (slot at : ℕ) (piece : Piece) (attempted : Option ℕ) (note : FaultNote) → LeavesAtFail b slot at Call false note (broken b slot piece attempted note)
broken_leaves b slot at piece attempted note = record {
  slots = refl;
  commits = refl;
  panes = refl;
  stopped = λ h running. h running;
  spent_stops = λ e running. cc;
  noted = λ e running. absurd (cc);
  calls = omega arith;
  reads = omega arith;
}

-- what is broken doesn't end the run
broken_goes_on : (at_limit breaks : Bool) → (at_limit && breaks) ≡ true → (at_limit && not breaks) ≡ false
broken_goes_on true true e = refl
broken_goes_on true false e = absurd (cc)
broken_goes_on false breaks e = refl

fail_by : (b : SeenBook) (slot at : ℕ) (job : Live) (cause : Cause) (t : Bool) → is_broken b job cause ≡ t
    → LeavesAtFail b slot at cause (ends_run b job cause) (note_of job at cause) (failed_where t b slot job at cause)
fail_by b slot at job cause false e = tried_leaves b slot at job cause
fail_by b slot at (live.Span piece attempted) Call true e =
    let job = live.Span piece attempted in
    subst (λ (t : Bool). LeavesAtFail b slot at Call t (note_of job at Call) (broken b slot piece attempted (note_of job at Call)))
    (sym (broken_goes_on (is_at_limit b job) (may_break b.plan job Call) e)) (broken_leaves b slot at piece attempted (note_of job at Call))
fail_by b slot at (live.Span piece attempted) Read true e = absurd (never_read b piece attempted e)
fail_by b slot at (live.Batch batch) cause true e = tried_leaves b slot at (live.Batch batch) cause
fail_by b slot at (live.Key turn) cause true e = tried_leaves b slot at (live.Key turn) cause

pub fail_leaves : (b : SeenBook) (slot at : ℕ) (job : Live) (cause : Cause) → LeavesAtFail b slot at cause (ends_run b job cause) (note_of job at cause) (failed b slot job at cause)
fail_leaves b slot at job cause = fail_by b slot at job cause (is_broken b job cause) refl
