-- The bytes before the fields of a struct or of a variant.
use Rattle.std.specs.Prelude.{ℕ, List, ◌∷◌, ◌++◌}
use Rattle.beam_values.specs.Spelling.{varint}

-- the tag of a Seq and how many items follow
unfoldable pub seq_head : ℕ → List ℕ
seq_head count = 4 ∷ varint count

-- The tag of a Pair, the Int of a place, and the head of the fields: of the variant 2 with one field these are 3, 1, 2, 4, 1.
unfoldable pub case_head : ℕ → ℕ → List ℕ
case_head place count = 3 ∷ (1 ∷ varint place) ++ seq_head count
