-- Cells listed by Group, key and window, and what is asked of those of one Group and key.
use Rattle.std.specs.Prelude.{◌≡◌, ◌⊎◌, ℕ, ℤ, ◌<ℤ◌, ◌≤ℤ◌, Bool, true, false, ◌&&◌, List, map, Option, Some, None, Contains, is_none}
use Rattle.std.specs.List.{All, AllPairs}
use Rattle.std.specs.Ordering.{int_cmp, nat_cmp, on, ordering_then, then_cmp}
use Rattle.std.specs.declared.cmp.Ordering.{Ordering}
use denote.Ref.{Bor}
use Rattle.beam_values.specs.Intervals.{Interval}
use Rattle.beam_values.specs.Marks.{marks_at}
use Rattle.beam_values.specs.Nodes.{is_group}
use Rattle.beam_values.specs.Orders.{value_cmp}
use Rattle.beam_values.specs.declared.cell.Cell.{Cell}
use Rattle.beam_values.specs.declared.marks.StageMarks.{StageMarks}
use Rattle.beam_values.specs.declared.plan.Plan.{Plan}
use Rattle.beam_values.specs.declared.value.Value.{Value}
use Rattle.beam_model.specs.Panes.{GroupRules, rules_of}
use Rattle.group_cells.specs.Cells.{firing_of}
use Rattle.group_cells.specs.Commits.{cells_keyed}
use Rattle.group_cells.specs.Rounds.{open_windows}
use Rattle.group_cells.specs.Sane.{AreAllApart, AreOnce, HasTaker}

-- it is of a Group, and fires nothing more at the mark into it
abbrev pub is_settled : Plan → List StageMarks → Cell → Bool
is_settled plan marks cell = is_group plan cell.node && is_none (firing_of (rules_of plan cell.node) (marks_at marks cell.node).mark_in cell)

-- the cells that are listed by their places in memory
abbrev pub cells_in : List (Bor Cell) → List Cell
cells_in listed = map (λ cell. cell.now) listed

-- the windows that begin first come first, and of those that begin together the longest
abbrev pub window_cmp : Interval → Interval → Ordering
window_cmp a b = ordering_then (int_cmp a.start b.start) (int_cmp b.end a.end)

abbrev pub group_cmp : Cell → Cell → Ordering
group_cmp = then_cmp (on (λ cell. cell.node) nat_cmp) (on (λ cell. cell.key) value_cmp)

-- Of one Group, `[0, 10)` of the key a comes before all of b, and of these `[0, 19)` before `[0, 10)`, into which that was merged, and `[5, 9)` comes last.
abbrev pub listing_cmp : Cell → Cell → Ordering
listing_cmp = then_cmp group_cmp (on (λ cell. cell.span) window_cmp)

-- a cell comes before another one of its Group and key, and has another window
abbrev pub IsBefore : Cell → Cell → Type 0
IsBefore a b = (a.span.start <ℤ b.span.start) ⊎ ((a.span.start ≡ b.span.start) × (b.span.end <ℤ a.span.end))

abbrev pub AreInOrder : List Cell → Type 0
AreInOrder cells = AllPairs IsBefore cells

-- of those that pass a test, the one that ends last
abbrev pub IsLatest : (Cell → Bool) → List Cell → Option (Bor Cell) → Type 0
IsLatest test cells None = All (λ cell. test cell ≡ false) cells
IsLatest test cells (Some latest) =
    Contains cells latest.now × (test latest.now ≡ true) × All (λ cell. test cell ≡ true → cell.span.end ≤ℤ latest.now.span.end) cells

-- that one ends no sooner than a cell
abbrev pub EndsWithin : Cell → Option (Bor Cell) → Type 0
EndsWithin cell None = ⊥
EndsWithin cell (Some latest) = cell.span.end ≤ℤ latest.now.span.end

-- it ends once a cell has begun
abbrev pub BeginsWithin : Cell → Option (Bor Cell) → Type 0
BeginsWithin cell None = ⊥
BeginsWithin cell (Some latest) = cell.span.start <ℤ latest.now.span.end

-- the cells of one Group and key
pub record IsSaneGroup (rules : GroupRules) (mark : ℤ) (cells : List Cell) : Type 0 where
  pub once : AreOnce cells
  pub merged : All (HasTaker rules cells) cells
  pub apart : rules.merges ≡ true → AreAllApart (open_windows rules mark cells)

-- those of each Group and key
pub record AreSaneGroups (plan : Plan) (marks : List StageMarks) (cells : List Cell) : Type 0 where
  pub each : (node : ℕ) (key : Value) → is_group plan node ≡ true → IsSaneGroup (rules_of plan node) (marks_at marks node).mark_in (cells_keyed node key cells)
