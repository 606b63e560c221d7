use Rattle.std.proofs.Common.{◌≡◌, ℕ, ◌∷◌, [], ◌++◌, List, Option, Some, None, refl}
use Rattle.std.specs.Prelude.{IsNone, IsSome}
use Rattle.beam_values.specs.declared.cell.Cell.{Cell}
use Rattle.cell_index.specs.Indexes.{IsIndexOf}
use Rattle.cell_index.specs.Places.{place_of}
use Rattle.cell_index.specs.declared.index.CellIndex.{CellIndex}
use Rattle.cell_index.specs.declared.index_key.CellKey.{CellKey}
use Rattle.cell_index.proofs.Indexing.{index_again}
use Rattle.cell_index.proofs.index.CellIndex.add.Goals as goal

-- the cell is found by its own place, or by the one that was found before
either : (new : CellIndex) (cells : List Cell) (cell : Cell) (key : CellKey) → cell.node ≡ key.node → cell.key ≡ key.key → cell.span ≡ key.span → (found : Option ℕ)
    → found ≡ place_of key.node key.key key.span cells → (IsSome found → IsIndexOf new cells) → (IsNone found → IsIndexOf new (cells ++ cell ∷ []))
    → IsIndexOf new (cells ++ cell ∷ [])
either new cells cell key nodes keys spans None at kept added = added refl
either new cells cell key nodes keys spans (Some place) at kept added = index_again new cells cell key place nodes keys spans at (kept refl)

pub returns-clause-ok : goal.returns-clause-ok
returns-clause-ok c = λ cells cell h at nodes keys spans.
    either c.find_or_add.new.self cells cell c.args.key.now nodes keys spans c.in_ok-_found._found (c.in_ok-_found.ensures.found cells h) (λ some. c.in_ok-_found.ensures.kept some cells h)
    (λ none. c.in_ok-_found.ensures.added none cells cell h at nodes keys spans)
