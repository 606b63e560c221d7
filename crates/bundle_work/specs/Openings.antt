-- The files of a plan as a kit has opened them.
use Rattle.std.specs.Prelude.{◌≡◌, ℕ, List, [], ◌∷◌, Option, IsSomeAnd}
use Rattle.std.specs.List.{flat_map}
use Rattle.beam_values.specs.Files.{first_named}
use Rattle.beam_values.specs.declared.file_text.FileText.{FileText}
use Rattle.beam_values.specs.declared.plan.NodeKind.{NodeKind}
use Rattle.beam_values.specs.declared.plan.NodeKind.TheVariants.{Source}
use Rattle.beam_values.specs.declared.plan.Plan.{Plan}
use Rattle.beam_ports.specs.Files.{Opening, OpensText}
use Rattle.beam_ports.specs.Observed.{WhereTold}
use Rattle.beam_ports.specs.declared.store.Opened.{Opened}

-- the names of the files that a source reads; what is counted or made has none
abbrev pub names_in : NodeKind → List (List ℕ)
names_in (Source work args files estimator) = files
names_in _ = []

-- the names of all files that a plan reads, by node and item
abbrev pub file_names : Plan → List (List ℕ)
file_names plan = flat_map (λ node. names_in node.kind) plan.nodes

-- A file was opened under this name, with this length; where the files are told, it is the first of that name.
pub record IsOpenedAs (files : Option (List FileText)) (opened : ℕ → Option Opening) (name : List ℕ) (file : Opened) : Type 0 where
  pub len : IsSomeAnd (opened file.file) (λ opening. opening.len ≡ file.len)
  pub told : WhereTold files (λ told. OpensText (first_named name told) file.len (opened file.file))

-- each name was opened, in order
abbrev pub AreOpened : Option (List FileText) → (ℕ → Option Opening) → List (List ℕ) → List Opened → Type 0
AreOpened files opened [] [] = Unit {0}
AreOpened files opened (name ∷ names) (file ∷ later) = IsOpenedAs files opened name file × AreOpened files opened names later
AreOpened files opened _ _ = ⊥
