-- How a pipeline ends that is run with a kit.
use Rattle.std.specs.Prelude.{◌≡◌, ◌⊎◌, ℕ, Option, Some, None}
use Rattle.beam_ports.specs.Observed.{ObservedSink}
use Rattle.beam_values.specs.declared.options.Options.{Options}
use Rattle.beam_values.specs.declared.outcome.Outcome.{Outcome}
use Rattle.beam_values.specs.declared.plan.Plan.{Plan}
use Rattle.run_engine.specs.Openings.{IsOpeningRefused}
use Rattle.run_engine.specs.PlanRun.{IsEndedBy, IsOutcomeWhere, IsSpent, IsStoppedBy, surroundings_of}
use Rattle.command_ends.specs.declared.status.Status.{Status}
use Rattle.command_ends.specs.declared.status.Status.TheVariants as status
use Rattle.beam_command.specs.declared.pipeline.Report.{Report}
use Rattle.beam_command.specs.Observing.{Observed, AreFound, IsUnwritten}
use Rattle.beam_command.specs.Ends.{IsPrinted}

-- what is printed of an outcome was written, or its writing failed, or there was no memory for it
abbrev pub IsRunPrinted : ObservedSink → ℕ → Report → Outcome → Status → Option Outcome → Type 0
IsRunPrinted out attempts report o status.Ok outcome = (outcome ≡ Some o) × IsPrinted out attempts report status.Ok o
IsRunPrinted out attempts report o status.SinkFault outcome = (outcome ≡ Some o) × IsPrinted out attempts report status.SinkFault o
IsRunPrinted out attempts report o status.NoMemory outcome = (outcome ≡ None) × (out.taken_after ≡ out.taken_before)
IsRunPrinted out attempts report o _ outcome = ⊥

-- the run of this plan came to its end, and what is printed of it was written
abbrev pub IsGraphThrough : Observed → Plan → Options → Report → Status → Option Outcome → Type 0
IsGraphThrough observed plan options report s outcome =
    AreFound observed.kits.store.files plan
    × ((o : Outcome) × (outcome ≡ Some o) × IsOutcomeWhere (surroundings_of observed.kits) plan options (IsEndedBy observed.kits) o × IsPrinted observed.out options.attempts report s o)

abbrev pub IsGraphEnd : Observed → Plan → Options → Report → ℕ → Status → Option Outcome → Type 0
IsGraphEnd observed plan options report failed status.Ok outcome = IsGraphThrough observed plan options report status.Ok outcome
IsGraphEnd observed plan options report failed status.SinkFault outcome = IsGraphThrough observed plan options report status.SinkFault outcome
IsGraphEnd observed plan options report failed (status.WorkFault note) outcome =
    IsUnwritten observed × AreFound observed.kits.store.files plan
    × ((o : Outcome) × (outcome ≡ Some o) × IsOutcomeWhere (surroundings_of observed.kits) plan options (IsStoppedBy observed.kits note) o)
    × IsSpent observed.kits options.attempts note
IsGraphEnd observed plan options report failed s outcome =
    IsUnwritten observed × (outcome ≡ None) × (IsOpeningRefused observed.kits.stores plan options.attempts failed s ⊎ (s ≡ status.NoMemory))
