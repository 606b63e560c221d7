-- How the workers of a book ended that is given back: where it runs on all of them have finished, and then it is through.
use Rattle.std.proofs.Common.{◌≡◌, ◌<◌, List, [], ◌∷◌, ◌++◌, length, refl, subst, arith}
use Rattle.std.specs.List.{AllByRecursion}
use Rattle.book_core.specs.Book.{SeenBook}
use Rattle.book_core.specs.Runs.{IsThrough}
use Rattle.book_core.specs.Steps.{IsRunning}
use Rattle.worker_table.specs.Ends.{IsEnded}
use Rattle.worker_table.specs.Notes.{Entry}
use Rattle.known_jobs.specs.Jobs.{Setting}
use Rattle.worker_loop.specs.Workers.{EachEndsAs, EndsAs}
use Rattle.worker_loop.specs.declared.workers.WorkerEnd.{WorkerEnd}
use Rattle.worker_loop.specs.declared.workers.WorkerEnd.TheVariants as end

all_behind : {A : Type 0} (P : A → Type 0) (xs ys : List A) → AllByRecursion P (xs ++ ys) → AllByRecursion P ys
all_behind P [] ys all = all
all_behind P (x ∷ xs) ys all = all_behind P xs ys all.1

one_finished : (setting : Setting) (b : SeenBook) (e : WorkerEnd) (entry : Entry) → EndsAs setting e entry → IsEnded b entry.ending → IsRunning b → (e ≡ end.Finished) × IsThrough b
one_finished setting b end.Finished entry ends ended running = (refl, (subst (IsEnded b) ends.0 ended).1)
one_finished setting b end.Spent entry ends ended running = absurd (subst (IsEnded b) ends.0 ended running)
one_finished setting b end.Stopped entry ends ended running = absurd (subst (IsEnded b) ends.0 ended running)
one_finished setting b end.NoMemory entry ends ended running = absurd (subst (IsEnded b) ends.0 ended running)

each_finished : (setting : Setting) (b : SeenBook) (ends : List WorkerEnd) (entries : List Entry) → EachEndsAs setting ends entries → AllByRecursion (λ entry. IsEnded b entry.ending) entries
    → IsRunning b → AllByRecursion (λ e. e ≡ end.Finished) ends × (0 < length ends → IsThrough b)
each_finished setting b [] [] each all running = (tt, λ some. absurd (omega arith))
each_finished setting b [] (entry ∷ entries) each all running = absurd each
each_finished setting b (e ∷ ends) [] each all running = absurd each
each_finished setting b (e ∷ ends) (entry ∷ entries) each all running =
    let here = one_finished setting b e entry each.0 all.0 running in
    ((here.0, (each_finished setting b ends entries each.1 all.1 running).0), λ some. here.1)

-- the entries of the workers stand behind others in the note with which the table was closed
pub all_finished : (setting : Setting) (b : SeenBook) (before : List Entry) (ends : List WorkerEnd) (entries : List Entry) → EachEndsAs setting ends entries
    → AllByRecursion (λ entry. IsEnded b entry.ending) (before ++ entries) → IsRunning b → AllByRecursion (λ e. e ≡ end.Finished) ends × (0 < length ends → IsThrough b)
all_finished setting b before ends entries each all running = each_finished setting b ends entries each (all_behind (λ entry. IsEnded b entry.ending) before entries all) running
