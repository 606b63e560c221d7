-- How the command may end, and what each end means.
use Rattle.std.specs.Prelude.{◌≡◌, ℕ, List, [], ◌∷◌, Option, Some, None, Ok}
use Rattle.beam_values.specs.declared.plan.Plan.{Plan}
use Rattle.beam_ports.specs.Observed.{ObservedSink, ObservedStore, WhereTold}
use Rattle.command_ends.specs.PlanFiles.{AreNamesOf, IsMeaningOf}
use Rattle.command_ends.specs.PlanFiles.{IsPlanRefused}
use Rattle.command_ends.specs.Writing.{IsWritten}
use Rattle.plan_drawing.specs.Drawing.{drawing_of}
use Rattle.command_ends.specs.declared.status.Status.{Status}
use Rattle.command_ends.specs.declared.status.Status.TheVariants as status

-- how often opening, reading and writing may fail
abbrev pub attempts : ℕ
attempts = 3

-- the file that the words of a command line name after the program: they are a command where there is just that one
abbrev pub file_asked : List (List ℕ) → Option (List ℕ)
file_asked (program ∷ file ∷ []) = Some file
file_asked _ = None

-- where the files are told, the document of this name is this plan and gives its nodes these names
abbrev pub IsPlanNamed : ObservedStore → List ℕ → List (List ℕ) → Plan → Type 0
IsPlanNamed store file names plan = WhereTold store.files (λ told. IsMeaningOf told file (Ok plan) × AreNamesOf told file names)

-- the drawing of the plan was written: whole, or less of it where the sink failed as often as it may
abbrev pub IsDrawn : ObservedStore → ObservedSink → List ℕ → Status → Type 0
IsDrawn store out file s =
    (names : List (List ℕ)) × (plan : Plan) × IsPlanNamed store file names plan × IsWritten out attempts (drawing_of names plan) s

-- a text was written so, or there was no memory for it and nothing was written; for a private clause
abbrev pub IsTextWritten : ObservedSink → List ℕ → Status → Type 0
IsTextWritten out text status.Ok = IsWritten out attempts text status.Ok
IsTextWritten out text status.SinkFault = IsWritten out attempts text status.SinkFault
IsTextWritten out text status.NoMemory = out.taken_after ≡ out.taken_before
IsTextWritten out text _ = ⊥

-- nothing was written
abbrev pub IsUnwritten : ObservedSink → Type 0
IsUnwritten out = out.taken_after ≡ out.taken_before

-- By what the words ask for: they are no command exactly where the end says so. At Ok the sink took the drawing of the plan, and at SinkFault a part of
-- it. Else the plan's file was not read, for the cause that the end tells, or there was no memory.
abbrev pub IsDrawEnd : Option (List ℕ) → ObservedStore → ObservedSink → Status → Type 0
IsDrawEnd None store out s = (s ≡ status.Usage) × IsUnwritten out
IsDrawEnd (Some file) store out status.Ok = IsDrawn store out file status.Ok
IsDrawEnd (Some file) store out status.SinkFault = IsDrawn store out file status.SinkFault
IsDrawEnd (Some file) store out s = IsUnwritten out × IsPlanRefused store file attempts s
