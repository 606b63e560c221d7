-- A run goes on from a book that a run reached.
use Rattle.std.proofs.Common.{◌≡◌, List, [], refl, sym, ap, subst}
use Rattle.beam_values.specs.declared.options.Options.{Options}
use Rattle.beam_values.specs.declared.piece.FileLen.{FileLen}
use Rattle.beam_values.specs.declared.plan.Plan.{Plan}
use Rattle.book_core.specs.Book.{SeenBook}
use Rattle.book_core.specs.Runs.{HonestRun, HonestlyReached, IsOpening, MadeStep}
use Rattle.book_core.specs.Work.{Surroundings}
use Rattle.known_jobs.specs.Jobs.{setting_for}
use Rattle.lone_worker.specs.Alone.{IsBookIn, IsRunOn}
use Rattle.lone_worker.proofs.Leading.{in_after, run_onward}

opening_same : (plan own : Plan) (files lengths : List FileLen) (options given : Options) (b : SeenBook) → own ≡ plan → lengths ≡ files → given ≡ options → IsOpening plan files options b → IsOpening own lengths given b
opening_same plan own files lengths options given b same_plan same_files same_options opening =
    subst (λ (p : Plan). IsOpening p lengths given b) (sym same_plan)
    (subst (λ (f : List FileLen). IsOpening plan f given b) (sym same_files) (subst (λ (o : Options). IsOpening plan files o b) (sym same_options) opening))

-- no step changes what a book was opened with
pub same_book : (known : Surroundings) (b c : SeenBook) → IsRunOn known b c → IsBookIn (setting_for known b) c
same_book known b c run = in_after (setting_for known b) known b c run (record { plan = refl; files = refl; options = refl })

-- a book is reached where it is opened
pub opening_reached_by : (known : Surroundings) (plan : Plan) (files : List FileLen) (options : Options) (b : SeenBook) → IsOpening plan files options b → HonestlyReached known b
opening_reached_by known plan files options b opening = record {
  first = b;
  opening = opening_same plan b.plan files b.files options b.options b (ap (λ (x : SeenBook). x.plan) opening.is) (ap (λ (x : SeenBook). x.files) opening.is) (ap (λ (x : SeenBook). x.options) opening.is) opening;
  steps = [];
  run = refl;
}

pub goes_on : (known : Surroundings) (b c : SeenBook) → HonestlyReached known b → IsRunOn known b c → HonestlyReached known c
goes_on known b c reached run =
    let all = run_onward known reached.first b c (record { steps = reached.steps; run = reached.run }) run in
    let same = same_book known b c run in
    record {
      first = reached.first;
      opening = opening_same b.plan c.plan b.files c.files b.options c.options reached.first same.plan same.files same.options reached.opening;
      steps = all.steps;
      run = all.run;
    }
