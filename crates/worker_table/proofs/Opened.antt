-- A book without a slot was reached by honest fails, since it has had no job; and it counts none.
use Rattle.std.proofs.Common.{◌≡◌, ℕ, ◌≤◌, List, [], ◌∷◌, length, length-append, refl, sym, ap, subst, arith}
use Rattle.std.specs.Prelude.{Option, None}
use Rattle.std.proofs.lemmas.Option.{slice_get_within}
use Rattle.beam_values.specs.declared.file_text.FileText.{FileText}
use Rattle.beam_values.specs.declared.options.Options.{Options}
use Rattle.beam_values.specs.declared.piece.FileLen.{FileLen}
use Rattle.beam_values.specs.declared.plan.Plan.{Plan}
use Rattle.book_core.specs.Book.{SeenBook}
use Rattle.book_core.specs.Runs.{HonestRun, IsHonestAction, IsOpening, MadeStep, Reached, Run}
use Rattle.book_core.specs.Steps.{Action, Enroll, Fail, Answer, Enrolled, NoMemory, Step}
use Rattle.book_core.specs.Work.{Surroundings}
use Rattle.worker_table.specs.Fits.{Fits}
use Rattle.worker_table.specs.Frames.{step_fails, step_slots}
use Rattle.worker_table.specs.Laws.{opening_fits}
use Rattle.worker_table.specs.Notes.{fresh}
use Rattle.known_jobs.specs.Jobs.{setting_for}

-- no step takes a slot away
step_grows : (told : Option (List FileText)) (b new : SeenBook) (slot : ℕ) (action : Action) (answer : Answer) → Step told b slot action answer new → length b.slots ≤ length new.slots
step_grows told b new slot Enroll (Enrolled number) step = let l = ap (λ (x : SeenBook). length x.slots) step.2 in omega (arith, length-append b.slots (None ∷ []))
step_grows told b new slot Enroll NoMemory step = let l = ap (λ (x : SeenBook). length x.slots) step in omega arith
step_grows told b new slot Enroll _ step = absurd step
step_grows told b new slot action answer step = let l = step_slots told b new slot action answer tt step in omega arith

run_grows : (told : Option (List FileText)) (steps : List MadeStep) (b end : SeenBook) → Run told b steps end → length b.slots ≤ length end.slots
run_grows told [] b end run = let l = ap (λ (x : SeenBook). length x.slots) run in omega arith
run_grows told (made ∷ later) b end run =
    let one = step_grows told b run.0 made.slot made.action made.answer run.1 in
    let more = run_grows told later run.0 end run.2 in
    omega arith

no_job : (known : Surroundings) (b : SeenBook) (slot : ℕ) (action : Action) → length b.slots ≡ 0 → IsHonestAction known b slot action
no_job known b slot (Fail at cause) none = λ job works. absurd (let w = slice_get_within b.slots slot _ works in omega (arith, none))
no_job known b slot _ none = tt

no_fail : (told : Option (List FileText)) (b new : SeenBook) (slot : ℕ) (action : Action) (answer : Answer) → Step told b slot action answer new → length b.slots ≡ 0 → (new.calls ≤ b.calls) × (new.reads ≤ b.reads)
no_fail told b new slot (Fail at cause) answer step none = absurd (let w = slice_get_within b.slots slot _ step.works.works in omega (arith, none))
no_fail told b new slot action answer step none = let f = step_fails told b new slot action answer step in (f.calls, f.reads)

quiet_run : (known : Surroundings) (steps : List MadeStep) (b end : SeenBook) → Run known.told b steps end → length end.slots ≡ 0 → HonestRun known b steps end × (end.calls ≤ b.calls) × (end.reads ≤ b.reads)
quiet_run known [] b end run none = (run, let c = ap (λ (x : SeenBook). x.calls) run in omega arith, let c = ap (λ (x : SeenBook). x.reads) run in omega arith)
quiet_run known (made ∷ later) b end run none =
    let empty : length b.slots ≡ 0 = let one = step_grows known.told b run.0 made.slot made.action made.answer run.1 in let more = run_grows known.told later run.0 end run.2 in omega (arith, none) in
    let rest = quiet_run known later run.0 end run.2 none in
    let fails = no_fail known.told b run.0 made.slot made.action made.answer run.1 empty in
    ((run.0, run.1, no_job known b made.slot made.action empty, rest.0), let a = rest.1 in let c = fails.0 in omega arith, let a = rest.2 in let c = fails.1 in omega arith)

pub opened_fits : (known : Surroundings) (b : SeenBook) → Reached known.told b → b.slots ≡ [] → Fits (setting_for known b) b [] (record { numbers = 0 ∷ []; free = 4294967295; about = fresh ∷ [] })
opened_fits known b reached none =
    let quiet = quiet_run known reached.steps reached.first b reached.run (ap length none) in
    let calls : b.calls ≡ 0 = let a = quiet.1 in let c = ap (λ (x : SeenBook). x.calls) reached.opening.is in omega arith in
    let reads : b.reads ≡ 0 = let a = quiet.2 in let c = ap (λ (x : SeenBook). x.reads) reached.opening.is in omega arith in
    opening_fits (setting_for known b) b
    (record { reached = record { first = reached.first; opening = reached.opening; steps = reached.steps; run = quiet.0 }; plan = refl; files = refl; options = refl })
    none calls reads

-- a book is reached where it is opened
pub opening_reached : (told : Option (List FileText)) (plan : Plan) (files : List FileLen) (options : Options) (b : SeenBook) → IsOpening plan files options b → Reached told b
opening_reached told plan files options b opening =
    record { first = b; opening = subst (λ (x : SeenBook). IsOpening x.plan x.files x.options b) (sym opening.is) opening; steps = []; run = refl }
