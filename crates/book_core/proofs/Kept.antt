-- What each step keeps holds of every reached book.
use Rattle.std.proofs.Common.{ℕ, List, [], ◌∷◌, sym, subst}
use Rattle.std.specs.Prelude.{Option}
use Rattle.beam_values.specs.declared.file_text.FileText.{FileText}
use Rattle.book_core.specs.Book.{SeenBook}
use Rattle.book_core.specs.Runs.{MadeStep, Run, Reached, IsOpening}
use Rattle.book_core.specs.Steps.{Action, Answer, Step}

-- a fact that the opening has and each step keeps, where other facts hold beside it
module _ (told : Option (List FileText)) (Fact : SeenBook → Type 0)
    (keeps : (b new : SeenBook) (slot : ℕ) (action : Action) (answer : Answer) → Step told b slot action answer new → Fact b → Fact new) where
  pub run_keeps : (steps : List MadeStep) (b end : SeenBook) → Run told b steps end → Fact b → Fact end
  run_keeps [] b end run h = subst Fact (sym run) h
  run_keeps (made ∷ later) b end run h =
      run_keeps later run.0 end run.2 (keeps b run.0 made.slot made.action made.answer run.1 h)

  pub reached_has : ((first b : SeenBook) → IsOpening b.plan b.files b.options first → Fact first) → (b : SeenBook) → Reached told b → Fact b
  reached_has opening b reached = run_keeps reached.steps reached.first b reached.run (opening reached.first b reached.opening)
