-- The lengths of source items, node by node.
use Rattle.std.specs.Prelude.{◌≡◌, ℕ, List, drop, Option, Some, None}
use Rattle.beam_values.specs.declared.piece.FileLen.{FileLen}
use Rattle.beam_model.specs.Positions.{SourceItem}
use Rattle.book_core.specs.Runs.{AreLengthsOf}

-- so many lengths are left out, and the others are those of these items
abbrev pub GoOn : Option ℕ → List SourceItem → List FileLen → Type 0
GoOn None others files = ⊥
GoOn (Some own) others files = AreLengthsOf others (drop own files)

-- it is that of an item of a node
abbrev pub IsItemAt : ℕ → ℕ → Option FileLen → Type 0
IsItemAt node item None = ⊥
IsItemAt node item (Some file) = (file.node ≡ node) × (file.item ≡ item)
