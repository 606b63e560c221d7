-- One more step leads from a reached book to a reached book.
use Rattle.std.proofs.Common.{◌≡◌, ℕ, Bool, true, false, List, [], ◌∷◌, ◌++◌, refl, sym, subst, ◌∙◌}
use Rattle.std.specs.Prelude.{Option, Some, None}
use Rattle.beam_values.specs.declared.fault.Cause.{Cause}
use Rattle.beam_values.specs.declared.fault.Cause.TheVariants.{Call, Read}
use Rattle.beam_values.specs.declared.fault.FaultNote.{FaultNote}
use Rattle.beam_values.specs.declared.file_text.FileText.{FileText}
use Rattle.beam_values.specs.declared.options.Options.{Options}
use Rattle.beam_values.specs.declared.piece.FileLen.{FileLen}
use Rattle.beam_values.specs.declared.plan.Plan.{Plan}
use Rattle.book_core.specs.Book.{SeenBook}
use Rattle.book_core.specs.Changes.{counted, ends_run, failed_where, given_back, is_broken, note_of, stopped_where, tried_again, with_slot}
use Rattle.book_core.specs.Jobs.{Next, next_job}
use Rattle.book_core.specs.Runs.{MadeStep, Run, Reached, IsOpening}
use Rattle.book_core.specs.Steps.{Action, Enroll, Take, Claim, Split, Commit, Fail, Stop, Answer, Enrolled, TakenJob, Nothing, Finished, Stopped, Claimed, SplitAt, Committed, Noted, NoMemory, Step}
use Rattle.book_core.specs.declared.live.Live.{Live}
use Rattle.book_core.specs.declared.live.Live.TheVariants as live
use Rattle.book_core.proofs.Taking.{take_cases}

-- what no step changes
pub record HasSamePlan (b new : SeenBook) : Type 0 where
  pub plan : new.plan ≡ b.plan
  pub files : new.files ≡ b.files
  pub options : new.options ≡ b.options

same_itself : (b : SeenBook) → HasSamePlan b b
same_itself b = record { plan = refl; files = refl; options = refl }

same_where : (b new : SeenBook) → new ≡ b → HasSamePlan b new
same_where b new e = subst (HasSamePlan b) (sym e) (same_itself b)

same_onward : (a b c : SeenBook) → HasSamePlan a b → HasSamePlan b c → HasSamePlan a c
same_onward a b c p q = record { plan = q.plan ∙ p.plan; files = q.files ∙ p.files; options = q.options ∙ p.options }

next_same : (b : SeenBook) (next : Next) → next_job b ≡ Some next → HasSamePlan b next.rest
next_same b next is =
    take_cases b (λ (n : Next). HasSamePlan b n.rest)
    (λ batch among. record { plan = refl; files = refl; options = refl })
    (λ batch oldest. record { plan = refl; files = refl; options = refl })
    (λ place cell found. record { plan = refl; files = refl; options = refl })
    (λ piece later e. record { plan = refl; files = refl; options = refl })
    next is

slot_same : (b : SeenBook) (slot : ℕ) (job : Option Live) → HasSamePlan b (with_slot b slot job)
slot_same b slot job = record { plan = refl; files = refl; options = refl }

back_same : (b : SeenBook) (job : Live) (at : ℕ) (cause : Cause) → HasSamePlan b (given_back b job at cause)
back_same b (live.Span piece attempted) at cause = record { plan = refl; files = refl; options = refl }
back_same b (live.Batch batch) at cause = record { plan = refl; files = refl; options = refl }
back_same b (live.Key turn) at cause = record { plan = refl; files = refl; options = refl }

counted_same : (b : SeenBook) (cause : Cause) → HasSamePlan b (counted b cause)
counted_same b Call = record { plan = refl; files = refl; options = refl }
counted_same b Read = record { plan = refl; files = refl; options = refl }

stopped_same : (spent : Bool) (b : SeenBook) (note : FaultNote) → HasSamePlan b (stopped_where spent b note)
stopped_same true b note = record { plan = refl; files = refl; options = refl }
stopped_same false b note = record { plan = refl; files = refl; options = refl }

tried_same : (b : SeenBook) (slot at : ℕ) (job : Live) (cause : Cause) → HasSamePlan b (tried_again b slot job at cause)
tried_same b slot at job cause =
    let back = given_back (with_slot b slot None) job at cause in
    let more = counted back cause in
    same_onward b more _
    (same_onward b back more (same_onward b (with_slot b slot None) back (slot_same b slot None) (back_same (with_slot b slot None) job at cause)) (counted_same back cause))
    (stopped_same (ends_run b job cause) more (note_of job at cause))

failed_same : (broken : Bool) (b : SeenBook) (slot at : ℕ) (job : Live) (cause : Cause) → HasSamePlan b (failed_where broken b slot job at cause)
failed_same true b slot at (live.Span piece attempted) cause = record { plan = refl; files = refl; options = refl }
failed_same true b slot at (live.Batch batch) cause = tried_same b slot at (live.Batch batch) cause
failed_same true b slot at (live.Key turn) cause = tried_same b slot at (live.Key turn) cause
failed_same false b slot at job cause = tried_same b slot at job cause

pub step_same : (told : Option (List FileText)) (b new : SeenBook) (slot : ℕ) (action : Action) (answer : Answer) → Step told b slot action answer new → HasSamePlan b new
step_same told b new slot Enroll (Enrolled number) step = subst (HasSamePlan b) (sym step.2) (record { plan = refl; files = refl; options = refl })
step_same told b new slot Enroll NoMemory step = same_where b new step
step_same told b new slot Take (TakenJob job) step =
    subst (HasSamePlan b) (sym step.is)
    (same_onward b step.next.rest _ (next_same b step.next step.is_next) (slot_same step.next.rest slot (Some step.next.job)))
step_same told b new slot Take Nothing step = same_where b new step.4
step_same told b new slot Take Finished step = same_where b new step.4
step_same told b new slot Take Stopped step = same_where b new step.2
step_same told b new slot Take NoMemory step = same_where b new step.1
step_same told b new slot (Claim p) (Claimed granted) step = subst (HasSamePlan b) (sym step.is) (slot_same b slot _)
step_same told b new slot (Split num den) (SplitAt (Some at)) step = subst (HasSamePlan b) (sym step.0.is) (record { plan = refl; files = refl; options = refl })
step_same told b new slot (Split num den) (SplitAt None) step = same_where b new step.1
step_same told b new slot (Split num den) NoMemory step = same_where b new step
step_same told b new slot Commit Committed step = subst (HasSamePlan b) (sym step.1.commit.is) (record { plan = refl; files = refl; options = refl })
step_same told b new slot Commit NoMemory step = same_where b new step.1
step_same told b new slot (Fail at cause) answer step = subst (HasSamePlan b) (sym step.is) (failed_same (is_broken b step.job cause) b slot at step.job cause)
step_same told b new slot Stop Noted step = subst (HasSamePlan b) (sym step) (record { plan = refl; files = refl; options = refl })
step_same told b new slot _ _ step = absurd step

run_more : (told : Option (List FileText)) (steps : List MadeStep) (b mid end : SeenBook) (made : MadeStep) → Run told b steps mid
    → Step told mid made.slot made.action made.answer end → Run told b (steps ++ made ∷ []) end
run_more told [] b mid end made run step = (end, subst (λ (x : SeenBook). Step told x made.slot made.action made.answer end) run step, refl)
run_more told (first ∷ later) b mid end made run step = (run.0, run.1, run_more told later run.0 mid end made run.2 step)

pub opening_of : (first b new : SeenBook) → HasSamePlan b new → IsOpening b.plan b.files b.options first → IsOpening new.plan new.files new.options first
opening_of first b new same opening =
    subst (λ (p : Plan). IsOpening p new.files new.options first) (sym same.plan)
    (subst (λ (f : List FileLen). IsOpening b.plan f new.options first) (sym same.files)
    (subst (λ (o : Options). IsOpening b.plan b.files o first) (sym same.options) opening))

pub reached_more : (told : Option (List FileText)) (b new : SeenBook) (slot : ℕ) (action : Action) (answer : Answer) → Step told b slot action answer new → Reached told b → Reached told new
reached_more told b new slot action answer step reached = record {
  first = reached.first;
  opening = opening_of reached.first b new (step_same told b new slot action answer step) reached.opening;
  steps = reached.steps ++ record { slot = slot; action = action; answer = answer } ∷ [];
  run = run_more told reached.steps reached.first b new (record { slot = slot; action = action; answer = answer }) reached.run step;
}

-- what the opening gave holds of every reached book
pub reached_opened : (told : Option (List FileText)) (b : SeenBook) (reached : Reached told b) → IsOpening b.plan b.files b.options reached.first
reached_opened told b reached = reached.opening
