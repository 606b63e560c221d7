-- Runs that ended, told whole: all that plain writing asks of a run, but for its triggers and estimators.
use Rattle.std.specs.Prelude.{◌≡◌, ℕ, true, List, Some}
use Rattle.beam_values.specs.Nodes.{HasNoStatefulAbove, is_write}
use Rattle.beam_values.specs.declared.file_text.FileText.{FileText}
use Rattle.beam_values.specs.declared.outcome.Outcome.{Outcome}
use Rattle.book_core.specs.Book.{SeenBook}
use Rattle.book_core.specs.Calls.{IsOutcomeOf}
use Rattle.book_core.specs.Runs.{AreTold, IsEnded, Reached}
use Rattle.ended_runs.specs.Storable.{ArePanesStorable}

-- The book of a run over these files is ended and has this outcome, and the node is a Write with no Stateful node above it.
pub record IsEndedRun (told : List FileText) (b : SeenBook) (o : Outcome) (node : ℕ) : Type 0 where
  pub reached : Reached (Some told) b
  pub lengths : AreTold told b
  pub ended : IsEnded b
  pub outcome : IsOutcomeOf b o
  pub storable : ArePanesStorable o
  pub write : is_write o.plan node ≡ true
  pub stateless : HasNoStatefulAbove o.plan node
