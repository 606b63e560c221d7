-- What the file of a plan document means, and why it was not read.
use Rattle.std.specs.Prelude.{◌≡◌, ℕ, ◌≤◌, List, Some, None, Ok, Err}
use Rattle.beam_values.specs.Files.{first_named}
use Rattle.beam_values.specs.declared.file_text.FileText.{FileText}
use Rattle.beam_values.specs.declared.plan.Plan.{Plan}
use Rattle.beam_ports.specs.Counts.{rise}
use Rattle.beam_ports.specs.Observed.{ObservedStore, WhereTold}
use Rattle.plan_reader.specs.Documents.{document_of, node_names_of}
use Rattle.plan_reader.specs.Refusals.{Meaning}
use Rattle.command_ends.specs.declared.status.Status.{Status}
use Rattle.command_ends.specs.declared.status.Status.TheVariants as status

-- these files have this name, and as a plan document the file means that
abbrev pub IsMeaningOf : List FileText → List ℕ → Meaning Plan → Type 0
IsMeaningOf told name meaning = (text : List ℕ) × (first_named name told ≡ Some text) × (document_of text ≡ meaning)

-- these files have this name, and as a plan document the file gives its nodes these names
abbrev pub AreNamesOf : List FileText → List ℕ → List (List ℕ) → Type 0
AreNamesOf told name names = (text : List ℕ) × (first_named name told ≡ Some text) × (node_names_of text ≡ Ok names)

-- The plan's file was not read: where the files are told it isn't there, or it has no plan; or opening and reading failed as often as they may; or there was
-- no memory.
abbrev pub IsPlanRefused : ObservedStore → List ℕ → ℕ → Status → Type 0
IsPlanRefused store name attempts (status.NoSource absent) = (absent ≡ name) × WhereTold store.files (λ told. first_named name told ≡ None)
IsPlanRefused store name attempts (status.SourceFault kit) = (kit ≡ 0) × (attempts ≤ rise store.before store.after)
IsPlanRefused store name attempts (status.BadPlan refusal) = WhereTold store.files (λ told. IsMeaningOf told name (Err refusal))
IsPlanRefused store name attempts status.NoMemory = Unit {0}
IsPlanRefused store name attempts _ = ⊥
