-- The least moment at which a cell of a node is due.
use Rattle.std.specs.Prelude.{◌≡◌, ℕ, ℤ, ◌≤ℤ◌, List, if◌then◌else◌, Option, Some, None, MatchOption}
use Rattle.std.specs.List.{All, Any}
use Rattle.beam_values.specs.declared.cell.Cell.{Cell}
use Rattle.beam_values.specs.declared.plan.Plan.{Plan}
use Rattle.beam_values.specs.declared.plan.Trigger.{Trigger}
use Rattle.beam_model.specs.Panes.{trigger_of}
use Rattle.pane_triggers.specs.NextMarks.{next_mark}
use Rattle.group_cells.specs.Placing.{is_standing}
use Rattle.group_cells.specs.Cells.{unseen_in}

-- the least mark at which a cell fires a pane, as long as nothing else changes; one that was merged fires none
abbrev pub moment_of : Trigger → Cell → Option ℤ
moment_of trigger cell = if is_standing cell.merged_into then next_mark trigger cell.span.end cell.on_time (unseen_in cell.entries) else None

-- a cell of the node is due then
abbrev pub IsDueAt : Plan → ℕ → ℤ → Cell → Type 0
IsDueAt plan node moment cell = (cell.node ≡ node) × (moment_of (trigger_of plan node) cell ≡ Some moment)

-- no cell of the node is due before then
abbrev pub IsNotDueBefore : Plan → ℕ → ℤ → Cell → Type 0
IsNotDueBefore plan node moment cell =
    cell.node ≡ node → MatchOption (moment_of (trigger_of plan node) cell) (Unit {0}) (λ own. moment ≤ℤ own)

-- the least moment of the cells of a node; none where none is ever due
abbrev pub IsNextDue : Plan → ℕ → List Cell → Option ℤ → Type 0
IsNextDue plan node cells None = All (λ cell. cell.node ≡ node → moment_of (trigger_of plan node) cell ≡ None) cells
IsNextDue plan node cells (Some moment) = Any (IsDueAt plan node moment) cells × All (IsNotDueBefore plan node moment) cells
