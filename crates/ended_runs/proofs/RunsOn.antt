-- What a first book has, and each step of a run keeps, holds of every book to which the run leads from there.
use Rattle.std.proofs.Common.{◌≡◌, ℕ, List, [], ◌∷◌, ◌++◌, refl, sym, subst, ap, ◌∙◌}
use Rattle.std.specs.Prelude.{Option, None}
use Rattle.std.proofs.lemmas.List.Elements.{All-cons, All-nil}
use Rattle.beam_values.specs.declared.options.Options.{Options}
use Rattle.beam_values.specs.declared.piece.FileLen.{FileLen}
use Rattle.beam_values.specs.declared.plan.Plan.{Plan}
use Rattle.book_core.specs.Book.{SeenBook}
use Rattle.book_core.specs.Runs.{HonestRun, IsHonestAction, IsOpening, MadeStep}
use Rattle.book_core.specs.Sane.{IsSane}
use Rattle.book_core.specs.Steps.{Action, Answer, IsIdle, Step}
use Rattle.book_core.specs.Stored.{IsSaneData, book_of}
use Rattle.book_core.specs.Work.{Surroundings}
use Rattle.book_core.specs.declared.data.BookData.{BookData}
use Rattle.book_core.specs.declared.live.Live.{Live}
use Rattle.book_core.proofs.Reaching.{HasSamePlan, step_same}
use Rattle.book_core.proofs.SaneAlways.{opened_sane, step_sane}
use Rattle.ended_runs.specs.RunsOn.{IsAtRest}
use Rattle.ended_runs.proofs.Stopped.{honest_run_more}

-- honest steps lead there from the first book, which is sane
pub record IsOn (known : Surroundings) (first b : SeenBook) : Type 0 where
  pub steps : List MadeStep
  pub run : HonestRun known first steps b
  pub sane : IsSane b
  pub same : HasSamePlan first b

on_first : (known : Surroundings) (first : SeenBook) → IsSane first → IsOn known first first
on_first known first sane = record { steps = []; run = refl; sane = sane; same = record { plan = refl; files = refl; options = refl } }

on_more : (known : Surroundings) (first b new : SeenBook) (made : MadeStep) → Step known.told b made.slot made.action made.answer new → IsHonestAction known b made.slot made.action
    → IsOn known first b → IsOn known first new
on_more known first b new made step honest on =
    let onward = step_same known.told b new made.slot made.action made.answer step in
    record {
      steps = on.steps ++ made ∷ [];
      run = honest_run_more known on.steps first b new made on.run step honest;
      sane = step_sane known.told b new made.slot made.action made.answer step on.sane;
      same = record { plan = onward.plan ∙ on.same.plan; files = onward.files ∙ on.same.files; options = onward.options ∙ on.same.options };
    }

module _ (known : Surroundings) (first : SeenBook) where
  module _ (Fact : SeenBook → Type 0)
      (keeps : (b new : SeenBook) (slot : ℕ) (action : Action) (answer : Answer) → IsOn known first b → Step known.told b slot action answer new → IsHonestAction known b slot action
      → Fact b → Fact new) where
    keep_on : (steps : List MadeStep) (b last : SeenBook) → HonestRun known b steps last → IsOn known first b → Fact b → Fact last
    keep_on [] b last run on h = subst Fact (sym run) h
    keep_on (made ∷ later) b last run on h =
        keep_on later run.0 last run.3 (on_more known first b run.0 made run.1 run.2 on) (keeps b run.0 made.slot made.action made.answer on run.1 run.2 h)

    pub kept_on : IsSane first → Fact first → (steps : List MadeStep) (b : SeenBook) → HonestRun known first steps b → Fact b
    kept_on sane h steps b run = keep_on steps first b run (on_first known first sane) h

  pub on_after : IsSane first → (steps : List MadeStep) (b : SeenBook) → HonestRun known first steps b → IsOn known first b
  on_after sane =
      kept_on (IsOn known first) (λ b new slot action answer on step honest was. on_more known first b new (record { slot = slot; action = action; answer = answer }) step honest on)
      sane (on_first known first sane)

-- ---- books at rest

pub opened_at_rest : (plan : Plan) (files : List FileLen) (options : Options) (b : SeenBook) → IsOpening plan files options b → IsAtRest b
opened_at_rest plan files options b opening = record {
  sane = opened_sane plan files options b opening;
  idle = subst (λ (x : SeenBook). IsIdle x) (sym opening.is) (All-nil (λ (slot : Option Live). slot ≡ None));
  running = ap (λ (x : SeenBook). x.stopped) opening.is;
}

pub stored_at_rest : (plan : Plan) (d : BookData) → IsSaneData plan d → IsAtRest (book_of d)
stored_at_rest plan d is = record { sane = is.sane; idle = All-cons (λ (slot : Option Live). slot ≡ None) None [] refl (All-nil (λ (slot : Option Live). slot ≡ None)); running = refl }
