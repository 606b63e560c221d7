-- The cells of a Group up to a place, once those of them that are due fired.
use Rattle.std.specs.Prelude.{◌≡◌, ◌⊎◌, ℕ, ◌+◌, ◌≤◌, ◌<◌, ◌^◌, ℤ, Contains, List, ◌++◌, length, map, take, drop, slice_get, slice_set, IsSome, Some, None}
use Rattle.beam_values.specs.declared.cell.Cell.{Cell}
use Rattle.beam_values.specs.declared.cell.Pane.{Pane}
use Rattle.beam_values.specs.declared.element.Timing.{Timing}
use Rattle.beam_model.specs.Panes.{GroupRules}
use Rattle.group_cells.specs.Cells.{once_fired, AreShownTo}
use Rattle.group_cells.specs.Plain.{after_node, AreFired, firing_at}

-- all cells of a node fired that are due, and answered these panes, one cell after another
pub record AreCellsFired (rules : GroupRules) (node c : ℕ) (mark : ℤ) (cells new : List Cell) (panes : List Pane) : Type 0 where
  pub fires : new ≡ map (after_node rules node mark) cells
  pub each : AreFired rules node c mark cells panes

-- the cell at a place fired a pane of this timing, and no other changed
abbrev pub HasFiredAt : ℕ → Timing → List Cell → List Cell → Type 0
HasFiredAt place timing cells new = (cell : Cell) → slice_get cells place ≡ Some cell → new ≡ slice_set cells place (once_fired (Some timing) cell)

-- after one pane more, the number of the next one still has 32 bits
abbrev pub CanFireAt : ℕ → List Cell → Type 0
CanFireAt place cells = (cell : Cell) → slice_get cells place ≡ Some cell → cell.next_index + 1 < 2 ^ 32

-- a pane has shown each entry of the cell at a place before `from_`
abbrev pub IsShownAt : ℕ → ℕ → List Cell → Type 0
IsShownAt from_ place cells = (cell : Cell) → slice_get cells place ≡ Some cell → AreShownTo from_ cell.entries

pub record AreFiredUpTo (rules : GroupRules) (node c : ℕ) (mark : ℤ) (cells : List Cell) (done : ℕ) (new : List Cell) (fired : List Pane) : Type 0 where
  pub within : done ≤ length cells
  pub written : new ≡ map (after_node rules node mark) (take done cells) ++ drop done cells
  pub each : AreFired rules node c mark (take done cells) fired

-- no cell from one place on and below another is due
abbrev pub IsNoneDue : GroupRules → ℕ → ℤ → List Cell → ℕ → ℕ → Type 0
IsNoneDue rules node mark cells from_ to_ = (place : ℕ) (cell : Cell) → from_ ≤ place → place < to_ → slice_get cells place ≡ Some cell → firing_at rules node mark cell ≡ None

-- each cell that is due is at one of these places
abbrev pub AreAllDue : GroupRules → ℕ → ℤ → List Cell → List ℕ → Type 0
AreAllDue rules node mark cells places = (place : ℕ) (cell : Cell) → slice_get cells place ≡ Some cell → IsSome (firing_at rules node mark cell) → Contains places place

-- firing has gone on from `done` to `next`, past `place`, or there is no cell at `place`
pub record IsFiredPast (rules : GroupRules) (node c : ℕ) (mark : ℤ) (cells : List Cell) (place done next : ℕ) (new : List Cell) (fired : List Pane) : Type 0 where
  pub upto : AreFiredUpTo rules node c mark cells next new fired
  pub on : done ≤ next
  pub past : (place < next) ⊎ (length cells ≤ place)
