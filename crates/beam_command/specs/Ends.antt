-- How a command may end, and what each end means.
use Rattle.std.specs.Prelude.{◌≡◌, ◌⊎◌, ℕ, List, Option, Some, None, slice_get}
use Rattle.beam_values.specs.declared.options.Options.{Options}
use Rattle.beam_values.specs.declared.outcome.Outcome.{Outcome}
use Rattle.beam_values.specs.declared.plan.Plan.{Plan}
use Rattle.beam_model.specs.Rendering.{IsRendering, summary}
use Rattle.beam_ports.specs.Observed.{ObservedStore, ObservedSink}
use Rattle.book_core.specs.Book.{SeenBook}
use Rattle.command_words.specs.Commands.{Asked, Help, Panes, Run, Replay, Make, Drill, Combine}
use Rattle.command_words.specs.HelpText.{help_text}
use Rattle.run_engine.specs.Openings.{IsOpeningRefused}
use Rattle.run_engine.specs.PlanRun.{IsEndedBy, IsOutcomeWhere, IsSpent, IsStoppedBy, surroundings_of}
use Rattle.run_engine.specs.declared.run_end.RunEnd.{RunEnd}
use Rattle.command_ends.specs.PlanFiles.{IsPlanRefused}
use Rattle.command_ends.specs.Writing.{IsWritten}
use Rattle.command_ends.specs.declared.status.Status.{Status}
use Rattle.command_ends.specs.declared.status.Status.TheVariants as status
use Rattle.beam_command.specs.Asking.{IsPlanOf, WherePipeline, report_of}
use Rattle.beam_command.specs.CombineEnds.{IsCombineEnd}
use Rattle.beam_command.specs.Observing.{Observed, AreFound, IsUnwritten}
use Rattle.beam_command.specs.ReplayEnds.{IsMakeEnd, IsReplayEnd, text_attempts}
use Rattle.beam_command.specs.declared.pipeline.Report.{Report}
use Rattle.beam_command.specs.declared.pipeline.Report.TheVariants.{Rendering, Summary}

-- ---- what is written

-- what is printed of an outcome
abbrev pub IsReport : Report → Outcome → List ℕ → Type 0
IsReport Rendering o text = IsRendering o text
IsReport Summary o text = text ≡ summary o

-- what is printed of it was written so
abbrev pub IsPrinted : ObservedSink → ℕ → Report → Status → Outcome → Type 0
IsPrinted out attempts report s o = (text : List ℕ) × IsReport report o text × IsWritten out attempts text s

-- ---- why a command did not come to its end

-- a plan's document was refused, where the command reads one, by the first store
abbrev pub IsDocumentRefused : Observed → Asked → ℕ → Status → Type 0
IsDocumentRefused observed (Run name options) attempts s =
    (first : ObservedStore) × (slice_get observed.kits.stores 0 ≡ Some first) × IsPlanRefused first name attempts s
IsDocumentRefused observed _ attempts s = ⊥

-- the plan that the first store tells is there, and a file that it reads could not be opened, or not as the first kit opened it
abbrev pub AreSourcesRefused : Observed → Asked → ℕ → Status → Type 0
AreSourcesRefused observed asked attempts s =
    (first : ObservedStore) × (plan : Plan) × (slice_get observed.kits.stores 0 ≡ Some first) × IsPlanOf first.files asked plan
    × IsOpeningRefused observed.kits.stores plan attempts 0 s

-- ---- the ends of a pipeline that is run

-- the plan that was asked for is there with its files, and the outcome is the data of a book of its run for which P holds
abbrev pub IsOutcomeOfAsked : Observed → Asked → Options → (SeenBook → Type 0) → Outcome → Type 0
IsOutcomeOfAsked observed asked options P o =
    (plan : Plan) × IsPlanOf observed.kits.store.files asked plan × AreFound observed.kits.store.files plan
    × IsOutcomeWhere (surroundings_of observed.kits) plan options P o

-- the run came to its end, and what is printed of it was written
abbrev pub IsRunThrough : Observed → Asked → Options → Status → Option Outcome → Type 0
IsRunThrough observed asked options s outcome =
    (o : Outcome) × (outcome ≡ Some o) × IsOutcomeOfAsked observed asked options (IsEndedBy observed.kits) o × IsPrinted observed.out options.attempts (report_of asked) s o

abbrev pub IsPipelineEnd : Observed → Asked → Options → Status → Option Outcome → Type 0
IsPipelineEnd observed asked options status.Ok outcome = IsRunThrough observed asked options status.Ok outcome
-- the run came to its end, and the sink failed
IsPipelineEnd observed asked options status.SinkFault outcome = IsRunThrough observed asked options status.SinkFault outcome
-- work failed as often as it may, and what was committed before is handed out
IsPipelineEnd observed asked options (status.WorkFault note) outcome =
    IsUnwritten observed × ((o : Outcome) × (outcome ≡ Some o) × IsOutcomeOfAsked observed asked options (IsStoppedBy observed.kits note) o)
    × IsSpent observed.kits options.attempts note
-- the run did not begin, or there was no memory
IsPipelineEnd observed asked options s outcome =
    IsUnwritten observed × (outcome ≡ None)
    × (IsDocumentRefused observed asked options.attempts s ⊎ AreSourcesRefused observed asked options.attempts s ⊎ (s ≡ status.NoMemory))

-- ---- the ends of a command

abbrev pub IsHelpEnd : ObservedSink → Status → Type 0
IsHelpEnd out status.Help = IsWritten out text_attempts help_text status.Help
IsHelpEnd out status.SinkFault = IsWritten out text_attempts help_text status.SinkFault
IsHelpEnd out _ = ⊥

-- By what the words ask for: the words are no command exactly where the end says so.
abbrev pub IsEndOf : Option Asked → Observed → Status → Option Outcome → Type 0
IsEndOf None observed s outcome = (s ≡ status.Usage) × IsUnwritten observed × (outcome ≡ None)
IsEndOf (Some Help) observed s outcome = IsHelpEnd observed.out s × (outcome ≡ None)
IsEndOf (Some (Panes file size options)) observed s outcome = IsPipelineEnd observed (Panes file size options) options s outcome
IsEndOf (Some (Run name options)) observed s outcome = IsPipelineEnd observed (Run name options) options s outcome
IsEndOf (Some (Replay name schedule options)) observed s outcome = IsReplayEnd observed name schedule options s × (outcome ≡ None)
IsEndOf (Some (Combine name options)) observed s outcome = IsCombineEnd observed name options s × (outcome ≡ None)
IsEndOf (Some (Make count number)) observed s outcome = IsMakeEnd observed.out count number s × (outcome ≡ None)
IsEndOf (Some (Drill count number options)) observed s outcome = IsPipelineEnd observed (Drill count number options) options s outcome

-- P holds of the outcome, where the run came to its end: there is one if its text was written, and may be one if only the sink failed
abbrev pub HasRun : Status → Option Outcome → (Outcome → Type 0) → Type 0
HasRun status.Ok outcome P = (o : Outcome) × (outcome ≡ Some o) × P o
HasRun status.SinkFault outcome P = (o : Outcome) → outcome ≡ Some o → P o
HasRun s outcome P = Unit {0}

-- the same of the end of a pipeline
abbrev pub IsRun : Option Asked → RunEnd → (Outcome → Type 0) → Type 0
IsRun asked end P = WherePipeline asked (λ own options. HasRun end.status end.outcome P)
