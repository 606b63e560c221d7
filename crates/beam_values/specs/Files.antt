-- Files as names and bytes.
use Rattle.std.specs.Prelude.{ℕ, Bool, List, find, bytes_eq, Option, option_map}
use Rattle.beam_values.specs.declared.file_text.FileText.{FileText}

abbrev pub is_named : List ℕ → FileText → Bool
is_named name file = bytes_eq file.name name

-- the bytes of the first file of that name
abbrev pub first_named : List ℕ → List FileText → Option (List ℕ)
first_named name files = option_map (λ file. file.bytes) (find (is_named name) files)
