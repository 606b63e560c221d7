-- What the cells of one Group and key fire after a commit (The Dataflow Model, triggers; Beam Programming Guide, Window accumulation modes).
use Rattle.std.specs.Prelude.{◌≡◌, ℕ, ◌+◌, ◌≤◌, ℤ, Bool, true, not, ◌&&◌, ◌||◌, if◌then◌else◌, List, length, map, take, count_by, Option, Some, None}
use Rattle.std.specs.List.{All, filter, list_any}
use Rattle.std.specs.Option.{is_some}
use Rattle.beam_values.specs.Firing.{firing}
use Rattle.beam_values.specs.declared.cell.Cell.{Cell}
use Rattle.beam_values.specs.declared.cell.Entry.{Entry}
use Rattle.beam_values.specs.declared.cell.Pane.{Pane}
use Rattle.beam_values.specs.declared.element.Timing.{Timing}
use Rattle.beam_values.specs.declared.plan.Mode.{Mode}
use Rattle.beam_values.specs.declared.plan.Mode.TheVariants.{Discarding, Accumulating}
use Rattle.beam_values.specs.declared.value.Value.{Value}
use Rattle.beam_model.specs.Panes.{GroupRules, taken_entry, is_on_time, is_of_window, IsFiredAs}
use Rattle.group_cells.specs.Placing.{is_standing}

abbrev pub unseen_in : List Entry → ℕ
unseen_in entries = count_by (λ entry. not entry.shown) entries

-- a pane has shown each entry before a place
pub record AreShownTo (end : ℕ) (entries : List Entry) : Type 0 where
  pub within : end ≤ length entries
  pub shown : All (λ entry. entry.shown ≡ true) (take end entries)

-- the timing of the pane that a cell fires at a mark, if it fires one
abbrev pub firing_of : GroupRules → ℤ → Cell → Option Timing
firing_of rules mark cell =
    if is_standing cell.merged_into then firing rules.trigger cell.span.end mark cell.on_time (unseen_in cell.entries) else None

-- the entries that the pane of a cell holds
abbrev pub entries_held : Mode → List Entry → List Entry
entries_held Discarding entries = filter (λ entry. not entry.shown) entries
entries_held Accumulating entries = entries

abbrev pub shown : Entry → Entry
shown entry = record entry { shown = true }

-- a cell after its pane fired
abbrev pub once_fired : Option Timing → Cell → Cell
once_fired None cell = cell
once_fired (Some timing) cell =
    record cell { entries = map shown cell.entries; next_index = cell.next_index + 1; on_time = cell.on_time || is_on_time timing }

abbrev pub after_firing : GroupRules → ℤ → Cell → Cell
after_firing rules mark cell = once_fired (firing_of rules mark cell) cell

-- of a window that stands, the panes in `fired` are what its cell fires: none, or one
abbrev pub FiresIts : GroupRules → ℕ → Value → ℕ → ℤ → List Pane → Cell → Type 0
FiresIts rules node key c mark fired cell =
    is_standing cell.merged_into ≡ true
    → IsFiredAs node key c cell.span cell.next_index (map (taken_entry node) (entries_held rules.trigger.mode cell.entries))
    (firing_of rules mark cell) (filter (is_of_window cell.span) fired)

-- a pane is of a cell that fires
abbrev pub is_fired_by : GroupRules → ℤ → Pane → Cell → Bool
is_fired_by rules mark pane cell = is_some (firing_of rules mark cell) && is_of_window cell.span pane

-- the panes in `fired` are those of these cells
pub record AreTheirPanes (rules : GroupRules) (node : ℕ) (key : Value) (c : ℕ) (mark : ℤ) (cells : List Cell) (fired : List Pane) : Type 0 where
  pub each : All (FiresIts rules node key c mark fired) cells
  pub only : All (λ pane. list_any (is_fired_by rules mark pane) cells ≡ true) fired
