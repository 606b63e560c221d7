-- Where the entries of a commit go among the cells of one Group and key (The Dataflow Model, window merging; Beam Programming Guide, Session windows,
-- Handling late data). Only windows that stand take entries; where windows merge, those that aren't expired give way to the session in which they lie.
use Rattle.std.specs.Prelude.{ℕ, ℤ, Bool, true, false, not, ◌&&◌, if◌then◌else◌, bytes_eq, List, [], ◌∷◌, ◌++◌, map, Option, Some, None, fold}
use Rattle.std.specs.List.{list_any, flat_map}
use Rattle.beam_values.specs.Firing.{is_expired}
use Rattle.beam_values.specs.Intervals.{Interval}
use Rattle.beam_values.specs.Spans.{same_span, lies_in}
use Rattle.beam_values.specs.Spelling.{spelling}
use Rattle.beam_values.specs.declared.cell.Cell.{Cell}
use Rattle.beam_values.specs.declared.cell.Entry.{Entry}
use Rattle.beam_values.specs.declared.value.Value.{Value}
use Rattle.beam_model.specs.Panes.{GroupRules, belongs, taken_entry}

-- two keys are one: they are spelled alike
abbrev pub is_same_key : Value → Value → Bool
is_same_key a b = bytes_eq (spelling a) (spelling b)

-- no other window took this one's entries
abbrev pub is_standing : Option Interval → Bool
is_standing None = true
is_standing (Some into) = false

abbrev pub stands_as : Interval → Cell → Bool
stands_as w cell = is_standing cell.merged_into && same_span cell.span w

-- Where windows merge, an open window that lies in a session gives way to it, unless it is that session. With lateness 0, at the mark 20, `[18, 28)` gives way to
-- `[12, 28)`; a window that ends at 20 is expired and gives way to none.
abbrev pub is_absorbed : GroupRules → ℤ → Interval → Interval → Bool
is_absorbed rules before session w =
    rules.merges && (not (is_expired rules.trigger w.end before) && (lies_in w session && not (same_span w session)))

abbrev pub gives_way : GroupRules → ℤ → Interval → Cell → Bool
gives_way rules before session cell = is_standing cell.merged_into && is_absorbed rules before session cell.span

-- a cell once the cell of a session was opened: it stays, or has handed its entries over
abbrev pub once_opened : GroupRules → ℤ → Interval → Cell → Cell
once_opened rules before session cell =
    if gives_way rules before session cell then record cell { entries = []; merged_into = Some session } else cell

abbrev pub handed_over : GroupRules → ℤ → Interval → Cell → List Entry
handed_over rules before session cell = if gives_way rules before session cell then cell.entries else []

-- a cell that has fired no pane
abbrev pub fresh_cell : ℕ → Value → Interval → List Entry → Cell
fresh_cell node key span entries =
    record { node = node; key = key; span = span; entries = entries; next_index = 0; on_time = false; merged_into = None }

-- a window for which there is to be a cell, and the key as it is written in that
pub record Opening : Type 0 where
  pub key : Value
  pub span : Interval

-- The cells once there is one for the window: where none stands for it, a new one behind them, with the entries of those that give way to it.
abbrev pub opened : GroupRules → ℤ → ℕ → List Cell → Opening → List Cell
opened rules before node cells opening =
    if list_any (stands_as opening.span) cells then cells
    else map (once_opened rules before opening.span) cells
    ++ fresh_cell node opening.key opening.span (flat_map (handed_over rules before opening.span) cells) ∷ []

abbrev pub opened_all : GroupRules → ℤ → ℕ → List Opening → List Cell → List Cell
opened_all rules before node openings cells = fold (opened rules before node) cells openings

-- a cell takes an entry that belongs to its window, while that stands
abbrev pub takes : GroupRules → Entry → Cell → Bool
takes rules entry cell = is_standing cell.merged_into && belongs rules cell.span (taken_entry cell.node entry)

abbrev pub with_entry : Entry → Cell → Cell
with_entry entry cell = record cell { entries = cell.entries ++ entry ∷ [] }

-- an entry goes to the first cell that takes it
abbrev pub put : GroupRules → Entry → List Cell → List Cell
put rules entry [] = []
put rules entry (cell ∷ cells) = if takes rules entry cell then with_entry entry cell ∷ cells else cell ∷ put rules entry cells

abbrev pub put_all : GroupRules → List Entry → List Cell → List Cell
put_all rules entries cells = fold (λ cells entry. put rules entry cells) cells entries
