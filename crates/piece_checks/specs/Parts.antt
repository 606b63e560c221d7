-- The parts that ranges and dead positions are, where they have offsets.
use Rattle.std.specs.Prelude.{ℕ, ◌+◌, ◌-◌, nat_lt, if◌then◌else◌, List, [], ◌∷◌, ◌++◌, map}
use Rattle.std.specs.List.{flat_map}
use Rattle.std.specs.declared.cmp.Ordering.{Ordering}
use Rattle.std.specs.Ordering.{on, then_cmp, nat_cmp}
use Rattle.beam_values.specs.Cover.{Place, times_at}
use Rattle.beam_values.specs.Intervals.{Offsets}
use Rattle.beam_values.specs.declared.piece.Dead.{Dead}
use Rattle.beam_values.specs.declared.piece.Done.{Done}
use Rattle.beam_values.specs.declared.piece.Piece.{Piece}
use Rattle.piece_checks.specs.declared.parts.Part.{Part}

-- the offsets of a part: of the first 3 and the last 5 these are `[3, 6)`
abbrev pub offsets_of : Part → Offsets
offsets_of part = record { from = part.first; to = part.last + 1 }

-- how often a part holds a place
abbrev pub times_part : Part → Place → ℕ
times_part part place = times_at part.node part.item (offsets_of part) place

-- an empty range is no part
abbrev pub parts_of_range : ℕ → ℕ → Offsets → List Part
parts_of_range node item range =
    if nat_lt range.from range.to then (record { node = node; item = item; first = range.from; last = range.to - 1 }) ∷ [] else []

abbrev pub parts_of_piece : Piece → List Part
parts_of_piece piece = parts_of_range piece.node piece.item piece.range

abbrev pub parts_of_done : Done → List Part
parts_of_done d = parts_of_range d.node d.item d.range

abbrev pub part_of_dead : Dead → Part
part_of_dead d = record { node = d.node; item = d.item; first = d.at; last = d.at }

abbrev pub all_parts : List Piece → List Done → List Dead → List Part
all_parts pending done dead = flat_map parts_of_piece pending ++ flat_map parts_of_done done ++ map part_of_dead dead

-- parts by their node, their item and their first offset
abbrev pub part_cmp : Part → Part → Ordering
part_cmp = then_cmp (on (λ part. part.node) nat_cmp) (then_cmp (on (λ part. part.item) nat_cmp) (on (λ part. part.first) nat_cmp))
