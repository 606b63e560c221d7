-- What holds of the cells of all Groups between any two commits, and is all that the next one asks of them: rounds keep it by themselves, whatever came
-- before.
use Rattle.std.specs.Prelude.{◌≡◌, ◌⊎◌, ℕ, ◌≤◌, Bool, true, false, ◌&&◌, List, [], None, Contains}
use Rattle.std.specs.List.{All, count_by, list_any}
use Rattle.beam_values.specs.Intervals.{Interval}
use Rattle.beam_values.specs.Marks.{marks_at}
use Rattle.beam_values.specs.Nodes.{is_group}
use Rattle.beam_values.specs.Sessions.{IsApart, IsNonEmpty}
use Rattle.beam_values.specs.Spans.{same_span, lies_in}
use Rattle.beam_values.specs.declared.cell.Cell.{Cell}
use Rattle.beam_values.specs.declared.marks.StageMarks.{StageMarks}
use Rattle.beam_values.specs.declared.plan.Plan.{Plan}
use Rattle.beam_values.specs.declared.value.Value.{Value}
use Rattle.beam_model.specs.Panes.{GroupRules, rules_of}
use Rattle.group_cells.specs.Cells.{firing_of}
use Rattle.group_cells.specs.Commits.{IsAtGroup, cells_keyed}
use Rattle.group_cells.specs.Placing.{is_standing}
use Rattle.group_cells.specs.Rounds.{open_windows}

-- ---- of one Group and key

-- each window has at most one cell
abbrev pub AreOnce : List Cell → Type 0
AreOnce cells = (w : Interval) → count_by (λ cell. same_span cell.span w) cells ≤ 1

-- a cell stands, and a window lies in its own
abbrev pub stands_round : Interval → Cell → Bool
stands_round w cell = is_standing cell.merged_into && lies_in w cell.span

-- Windows merge here, and a cell that was merged has no entries left and lies in one that stands: `[0, 10)` in `[0, 19)`, say.
pub record IsMerged (rules : GroupRules) (cells : List Cell) (cell : Cell) : Type 0 where
  pub merges : rules.merges ≡ true
  pub empty : cell.entries ≡ []
  pub taker : list_any (stands_round cell.span) cells ≡ true

abbrev pub HasTaker : GroupRules → List Cell → Cell → Type 0
HasTaker rules cells cell = is_standing cell.merged_into ≡ false → IsMerged rules cells cell

-- windows that hold some time, of which any two are one or apart
pub record AreAllApart (windows : List Interval) : Type 0 where
  pub some : All IsNonEmpty windows
  pub each : (a b : Interval) → Contains windows a → Contains windows b → (a ≡ b) ⊎ IsApart a b

-- ---- of all Groups and keys

pub record HaveOneCell (plan : Plan) (cells : List Cell) : Type 0 where
  pub each : (node : ℕ) (key : Value) → is_group plan node ≡ true → AreOnce (cells_keyed node key cells)

pub record HaveTakers (plan : Plan) (cells : List Cell) : Type 0 where
  pub each : (node : ℕ) (key : Value) → is_group plan node ≡ true → All (HasTaker (rules_of plan node) (cells_keyed node key cells)) (cells_keyed node key cells)

-- a cell fires nothing more at the mark into its Group
abbrev pub FiresNoMore : Plan → List StageMarks → Cell → Type 0
FiresNoMore plan marks cell = firing_of (rules_of plan cell.node) (marks_at marks cell.node).mark_in cell ≡ None

-- of each key of a Group of sessions, the windows that can still merge are apart
pub record AreOpenApart (plan : Plan) (marks : List StageMarks) (cells : List Cell) : Type 0 where
  pub each : (node : ℕ) (key : Value) → is_group plan node ≡ true → (rules_of plan node).merges ≡ true
      → AreAllApart (open_windows (rules_of plan node) (marks_at marks node).mark_in (cells_keyed node key cells))

-- the cells after a commit with these marks
pub record AreSaneCells (plan : Plan) (marks : List StageMarks) (cells : List Cell) : Type 0 where
  pub at_groups : All (IsAtGroup plan) cells
  pub once : HaveOneCell plan cells
  pub merged : HaveTakers plan cells
  pub settled : All (FiresNoMore plan marks) cells
  pub apart : AreOpenApart plan marks cells

-- no cell counts more panes than so many: that there are, say
abbrev pub ArePanesCounted : ℕ → List Cell → Type 0
ArePanesCounted most cells = All (λ cell. cell.next_index ≤ most) cells
