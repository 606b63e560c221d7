-- How a file is opened and read whole.
use Rattle.std.specs.Prelude.{◌≡◌, ℕ, List, length, Option, Some, IsSomeAnd}
use Rattle.beam_values.specs.Files.{first_named}
use Rattle.beam_values.specs.declared.file_text.FileText.{FileText}
use Rattle.beam_ports.specs.Files.{Opening, OpensText}
use Rattle.beam_ports.specs.Observed.{WhereTold}
use Rattle.beam_ports.specs.declared.store.Opened.{Opened}
use Rattle.command_ends.specs.declared.status.Status.{Status}
use Rattle.command_ends.specs.declared.status.Status.TheVariants as status

-- a file was opened under this name; where the files are told, it is the first of that name
pub record IsOpenedWhole (files : Option (List FileText)) (opened : ℕ → Option Opening) (name : List ℕ) (file : Opened) : Type 0 where
  pub len : IsSomeAnd (opened file.file) (λ opening. opening.len ≡ file.len)
  pub first : WhereTold files (λ told. OpensText (first_named name told) file.len (opened file.file))

-- these bytes are the opened file's, where its text is told
pub record IsTextOf (opening : Option Opening) (len : ℕ) (bytes : List ℕ) : Type 0 where
  pub whole : length bytes ≡ len
  pub told : (text : List ℕ) → opening ≡ Some (record { len = len; text = Some text }) → length text ≡ len → bytes ≡ text

-- reading failed as often as it may, or there was no memory
abbrev pub IsReadRefused : Status → Type 0
IsReadRefused (status.SourceFault kit) = kit ≡ 0
IsReadRefused status.NoMemory = Unit {0}
IsReadRefused _ = ⊥
