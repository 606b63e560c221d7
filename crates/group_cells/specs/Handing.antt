-- A cell gives way to a session: its entries move to the session's cell, which is the last one, and back where memory is refused later.
use Rattle.std.specs.Prelude.{◌≡◌, ℕ, ◌-◌, List, [], ◌++◌, length, take, drop, Some, None, slice_get, slice_set}
use Rattle.beam_values.specs.Intervals.{Interval}
use Rattle.beam_values.specs.declared.cell.Cell.{Cell}
use Rattle.beam_values.specs.declared.cell.Entry.{Entry}
use Rattle.group_cells.specs.AtPlaces.{at_place, changed_at}
use Rattle.group_cells.specs.declared.groups.handing.Given.{Given}
use Rattle.group_cells.specs.declared.groups.handing.Given.TheVariants.{Whole, Last}

-- of the entries of a session's cell those that it keeps, and those that go back
abbrev pub kept_entries : Given → List Entry → List Entry
kept_entries Whole entries = []
kept_entries (Last room) entries = take (length entries - room.count) entries

abbrev pub given_entries : Given → List Entry → List Entry
given_entries Whole entries = entries
given_entries (Last room) entries = drop (length entries - room.count) entries

-- a cell that gave way to a session
abbrev pub given_way : Interval → Cell → Cell
given_way session cell = record cell { entries = []; merged_into = Some session }

abbrev pub with_entries : List Entry → Cell → Cell
with_entries entries cell = record cell { entries = cell.entries ++ entries }

-- the cell at a place gave way to a session, whose cell at another one took its entries
abbrev pub HasGivenWay : Interval → ℕ → ℕ → List Cell → List Cell → Type 0
HasGivenWay session place last cells new = (cell taker : Cell) → slice_get cells place ≡ Some cell → slice_get cells last ≡ Some taker
    → new ≡ slice_set (slice_set cells place (given_way session cell)) last (with_entries cell.entries taker)

-- a cell that stands, with these entries
abbrev pub standing_with : List Entry → Cell → Cell
standing_with entries cell = record cell { entries = entries; merged_into = None }

abbrev pub without_given : Given → Cell → Cell
without_given given cell = record cell { entries = kept_entries given cell.entries }

-- before the cell at a place gave way to the session whose cell is the last one
abbrev pub handed_back : ℕ → Given → List Cell → List Cell
handed_back place given cells =
    changed_at (standing_with (at_place (λ cell. given_entries given cell.entries) [] cells (length cells - 1)))
    (changed_at (without_given given) cells (length cells - 1)) place
