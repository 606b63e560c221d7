-- One more step leads from a book that honest fails reached to another, and a batch that is worked is of panes that fired.
use Rattle.std.proofs.Common.{ℕ, List, [], ◌∷◌, ◌++◌, refl, subst, ◌∙◌}
use Rattle.book_core.specs.Book.{SeenBook}
use Rattle.book_core.specs.Runs.{HonestRun, HonestlyReached, IsHonestAction, MadeStep}
use Rattle.book_core.specs.Steps.{Action, Answer, IsWorking, Step}
use Rattle.book_core.specs.Work.{Surroundings}
use Rattle.book_core.specs.declared.live.Batch.{Batch}
use Rattle.book_core.specs.declared.live.Live.TheVariants as live
use Rattle.book_core.proofs.AllKept.{honest_reached}
use Rattle.book_core.proofs.Reaching.{opening_of, step_same}
use Rattle.book_core.proofs.SaneAlways.{reached_sane}
use Rattle.known_jobs.specs.Jobs.{AreAllFired, Setting}
use Rattle.known_jobs.specs.Known.{live_fired}
use Rattle.worker_table.specs.Fits.{IsBookOf}

module _ (known : Surroundings) where
  run_more : (steps : List MadeStep) (b mid end : SeenBook) (made : MadeStep) → HonestRun known b steps mid → Step known.told mid made.slot made.action made.answer end
      → IsHonestAction known mid made.slot made.action → HonestRun known b (steps ++ made ∷ []) end
  run_more [] b mid end made run step honest = (
    end,
    subst (λ (x : SeenBook). Step known.told x made.slot made.action made.answer end) run step,
    subst (λ (x : SeenBook). IsHonestAction known x made.slot made.action) run honest,
    refl,
  )
  run_more (first ∷ later) b mid end made run step honest = (run.0, run.1, run.2, run_more later run.0 mid end made run.3 step honest)

  pub honest_more : (b new : SeenBook) (slot : ℕ) (action : Action) (answer : Answer) → Step known.told b slot action answer new → IsHonestAction known b slot action
      → HonestlyReached known b → HonestlyReached known new
  honest_more b new slot action answer step honest reached = record {
    first = reached.first;
    opening = opening_of reached.first b new (step_same known.told b new slot action answer step) reached.opening;
    steps = reached.steps ++ record { slot = slot; action = action; answer = answer } ∷ [];
    run = run_more reached.steps reached.first b new (record { slot = slot; action = action; answer = answer }) reached.run step honest;
  }

-- the book stays one of its plan, lengths and options
pub book_more : (setting : Setting) (b new : SeenBook) (slot : ℕ) (action : Action) (answer : Answer) → Step setting.known.told b slot action answer new → IsHonestAction setting.known b slot action
    → IsBookOf setting b → IsBookOf setting new
book_more setting b new slot action answer step honest book =
    let same = step_same setting.known.told b new slot action answer step in record {
      reached = honest_more setting.known b new slot action answer step honest book.reached;
      plan = same.plan ∙ book.plan;
      files = same.files ∙ book.files;
      options = same.options ∙ book.options;
    }

-- ---- panes that are worked have fired

pub worked_fired : (setting : Setting) (b : SeenBook) → IsBookOf setting b → (i : ℕ) (batch : Batch) → IsWorking b i (live.Batch batch) → AreAllFired b.panes batch
worked_fired setting b book i batch works = live_fired b i batch (reached_sane setting.known.told b (honest_reached setting.known b book.reached)).held works
