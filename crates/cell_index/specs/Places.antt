-- The places of cells by node, key and window.
use Rattle.std.specs.Prelude.{ℕ, ◌==◌, Bool, ◌&&◌, List, position, Option}
use Rattle.std.specs.Str.{bytes_eq}
use Rattle.beam_values.specs.Intervals.{Interval}
use Rattle.beam_values.specs.Spans.{same_span}
use Rattle.beam_values.specs.Spelling.{spelling}
use Rattle.beam_values.specs.declared.cell.Cell.{Cell}
use Rattle.beam_values.specs.declared.value.Value.{Value}

-- the cell of a node, key and window
abbrev pub is_cell_of : ℕ → Value → Interval → Cell → Bool
is_cell_of node key span cell = (cell.node == node && bytes_eq (spelling cell.key) (spelling key)) && same_span cell.span span

-- the place of that cell, if there is one, also of one that was merged
abbrev pub place_of : ℕ → Value → Interval → List Cell → Option ℕ
place_of node key span cells = position (is_cell_of node key span) cells
