-- The pipeline that a command line asks to be run.
use Rattle.std.specs.Prelude.{◌≡◌, ℕ, ℤ, List, Option, Some, Ok}
use Rattle.beam_values.specs.declared.file_text.FileText.{FileText}
use Rattle.beam_values.specs.declared.options.Options.{Options}
use Rattle.beam_values.specs.declared.plan.Plan.{Plan}
use Rattle.beam_model.specs.Plans.{panes_plan}
use Rattle.beam_ports.specs.Observed.{WhereTold}
use Rattle.command_ends.specs.PlanFiles.{IsMeaningOf}
use Rattle.command_words.specs.Commands.{Asked, Panes, Run, Replay, Drill, Combine}
use Rattle.beam_command.specs.DrillPlans.{drill_plan}
use Rattle.beam_command.specs.declared.pipeline.Report.{Report}
use Rattle.beam_command.specs.declared.pipeline.Report.TheVariants.{Rendering, Summary}

-- ---- which command is asked for

-- this holds of the file, the size and the options, where `panes` is asked for
abbrev pub WherePanes : Option Asked → (List ℕ → ℤ → Options → Type 0) → Type 0
WherePanes (Some (Panes file size options)) P = P file size options
WherePanes _ P = Unit {0}

-- this holds of the names of the plan and of the schedule, and of the options, where `replay` is
abbrev pub WhereReplay : Option Asked → (List ℕ → List ℕ → Options → Type 0) → Type 0
WhereReplay (Some (Replay name schedule options)) P = P name schedule options
WhereReplay _ P = Unit {0}

-- this holds of the name of the plan and of the options, where `combine` is
abbrev pub WhereCombine : Option Asked → (List ℕ → Options → Type 0) → Type 0
WhereCombine (Some (Combine name options)) P = P name options
WhereCombine _ P = Unit {0}

-- this holds of the two numbers and of the options, where `drill` is
abbrev pub WhereDrill : Option Asked → (ℕ → ℕ → Options → Type 0) → Type 0
WhereDrill (Some (Drill count number options)) P = P count number options
WhereDrill _ P = Unit {0}

-- This holds of what is asked for and of its options, where it is a pipeline that is run to its end: its outcome is handed out. A replay runs one as far as its
-- schedule goes, and hands none out; what is combined has no panes to hand out.
abbrev pub WherePipeline : Option Asked → (Asked → Options → Type 0) → Type 0
WherePipeline (Some (Panes file size options)) P = P (Panes file size options) options
WherePipeline (Some (Run name options)) P = P (Run name options) options
WherePipeline (Some (Drill count number options)) P = P (Drill count number options) options
WherePipeline _ P = Unit {0}

-- ---- the pipeline

-- where the files are told, the plan is what its document means
abbrev pub IsPlanRead : Option (List FileText) → List ℕ → Plan → Type 0
IsPlanRead files name plan = WhereTold files (λ told. IsMeaningOf told name (Ok plan))

-- the plan of such a pipeline: that of `panes` or of `drill`, or the one of the document, where the files are told
abbrev pub IsPlanOf : Option (List FileText) → Asked → Plan → Type 0
IsPlanOf files (Panes file size options) plan = plan ≡ panes_plan file size
IsPlanOf files (Run name options) plan = IsPlanRead files name plan
IsPlanOf files (Drill count number options) plan = plan ≡ drill_plan count number
IsPlanOf files _ plan = ⊥

-- what is printed of its outcome
abbrev pub report_of : Asked → Report
report_of (Drill count number options) = Summary
report_of _ = Rendering
