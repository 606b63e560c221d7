-- The parts that a range is cut into.
use Rattle.std.specs.Prelude.{ℕ}
use Rattle.beam_values.specs.declared.piece.Done.{Done}

-- the range [from, to) of an item
abbrev pub part : ℕ → ℕ → ℕ → ℕ → Done
part node item from to = record { node = node; item = item; range = record { from = from; to = to } }
