-- What a command observes at the kits in use and at its output.
use Rattle.std.specs.Prelude.{◌≡◌, List, Option, IsSome}
use Rattle.std.specs.List.{All}
use Rattle.beam_values.specs.Files.{first_named}
use Rattle.beam_values.specs.declared.file_text.FileText.{FileText}
use Rattle.beam_values.specs.declared.plan.Plan.{Plan}
use Rattle.beam_ports.specs.Observed.{ObservedSink, WhereTold}
use Rattle.bundle_work.specs.Openings.{file_names}
use Rattle.run_engine.specs.Kits.{ObservedKits}

-- what a command observed at the kits in use and at its output
pub record Observed : Type 0 where
  pub kits : ObservedKits
  pub out : ObservedSink

-- nothing was written
abbrev pub IsUnwritten : Observed → Type 0
IsUnwritten observed = observed.out.taken_after ≡ observed.out.taken_before

-- every file that a plan reads is there
abbrev pub AreFound : Option (List FileText) → Plan → Type 0
AreFound files plan = WhereTold files (λ told. All (λ name. IsSome (first_named name told)) (file_names plan))
