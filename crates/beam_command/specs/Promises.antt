-- What the outcome of a run that came to its end is, beside its plan.
use Rattle.std.specs.Prelude.{List, Option, Some, None}
use Rattle.beam_values.specs.declared.file_text.FileText.{FileText}
use Rattle.beam_values.specs.declared.outcome.Outcome.{Outcome}
use Rattle.beam_values.specs.declared.plan.Plan.{Plan}
use Rattle.beam_model.specs.Logs.{AreLogsLegal}
use Rattle.beam_model.specs.Panes.{ArePanesLegal}
use Rattle.command_words.specs.Commands.{Asked, Panes, Drill}
use Rattle.beam_command.specs.Asking.{IsPlanOf}

-- the plan of what is asked for, if anything is
abbrev pub IsPlanAsked : Option (List FileText) → Option Asked → Plan → Type 0
IsPlanAsked files None plan = ⊥
IsPlanAsked files (Some asked) plan = IsPlanOf files asked plan

abbrev pub HasLegalPanes : Outcome → Type 0
HasLegalPanes o = ArePanesLegal o.plan o.commits o.cells o.dropped o.panes

abbrev pub HasLegalLogs : Outcome → Type 0
HasLegalLogs o = AreLogsLegal o.plan o.commits o.logs

-- The pipeline of `panes` or of `drill` is asked for: the triggers of the one are the default ones and it has no estimator; those of the other too, and the times
-- of made lines rise. So what is said of sound estimators is said of all that they write.
abbrev pub AsksPlainPlan : Option Asked → Type 0
AsksPlainPlan (Some (Panes file size options)) = Unit {0}
AsksPlainPlan (Some (Drill count number options)) = Unit {0}
AsksPlainPlan _ = ⊥
