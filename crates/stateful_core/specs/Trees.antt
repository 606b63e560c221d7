-- Which cell is ready, and what holds a node back, without a look at all cells: for each node a list of marks, with an entry for each cell.
use Rattle.std.specs.Prelude.{◌≡◌, ◌⊎◌, ◌+◌, ◌<◌, ◌≤◌, ℕ, ℤ, Bool, true, false, ◌&&◌, ◌||◌, if◌then◌else◌, int_le, ◌==◌, List, get_or, length, slice_get, slice_set, Option, Some, None}
use Rattle.std.specs.Int.{int_min}
use Rattle.std.specs.Option.{MatchOption}
use Rattle.beam_values.specs.Times.{IsMark, final_mark, greatest_time}
use Rattle.beam_values.specs.declared.marks.StageMarks.{StageMarks}
use Rattle.beam_model.specs.Holds.{least_hold}
use Rattle.mark_trees.specs.Halves.{is_due, no_marks}
use Rattle.mark_trees.specs.declared.twin_marks.TwinMarks.{TwinMarks}
use Rattle.stateful_core.specs.Cells.{KeyCell, cell_holds}
use Rattle.stateful_core.specs.Taking.{first_timer, has_waiting, if_due, is_free, is_ready, is_some}
use Rattle.stateful_core.specs.declared.node_tree.NodeTree.{NodeTree}
use Rattle.stateful_core.specs.declared.place.Place.{Place}

-- ready where the mark into the node is this
abbrev pub is_ready_at : ℤ → KeyCell → Bool
is_ready_at mark cell = is_free cell && (has_waiting cell.waiting || is_some (if_due mark (first_timer cell.kept.timers)))

-- the timers alone
pub record IsTimerDue (timers : List (Option ℤ)) (time : ℤ) : Type 0 where
  pub due : (mark : ℤ) → IsMark mark → int_le time (int_min mark greatest_time) ≡ is_some (if_due mark (first_timer timers))

-- due just where the cell is ready
pub record IsDueTime (cell : KeyCell) (time : ℤ) : Type 0 where
  pub due : (mark : ℤ) → IsMark mark → int_le time (int_min mark greatest_time) ≡ is_ready_at mark cell

-- never due, and holds nothing
pub record IsIdle (entry : TwinMarks) : Type 0 where
  pub never : (mark : ℤ) → IsMark mark → is_due (int_min mark greatest_time) entry ≡ false
  pub free : entry.hold ≡ final_mark

-- due just where the cell is ready, with the least of its holds
pub record IsEntryOf (cell : KeyCell) (entry : TwinMarks) : Type 0 where
  pub due : (mark : ℤ) → IsMark mark → is_due (int_min mark greatest_time) entry ≡ is_ready_at mark cell
  pub held : entry.hold ≡ least_hold (cell_holds cell) cell.log.node

abbrev pub entry_at : List TwinMarks → ℕ → TwinMarks
entry_at entries at = get_or entries at no_marks

-- each cell of the node has its entry, but for one; what else is there is idle
pub record IsTreeBut (hole : Option ℕ) (node : ℕ) (entries : List TwinMarks) (cells : List KeyCell) : Type 0 where
  pub own : (at : ℕ) (cell : KeyCell) → slice_get cells at ≡ Some cell → cell.log.node ≡ node → (hole ≡ Some at → ⊥) → IsEntryOf cell (entry_at entries at)
  pub other : (at : ℕ) (cell : KeyCell) → slice_get cells at ≡ Some cell → (cell.log.node ≡ node → ⊥) → IsIdle (entry_at entries at)
  pub long : (at : ℕ) (cell : KeyCell) → slice_get cells at ≡ Some cell → cell.log.node ≡ node → at < length entries
  pub idle : (at : ℕ) → length cells ≤ at → IsIdle (entry_at entries at)

abbrev pub IsAmong : List NodeTree → ℕ → Type 0
IsAmong trees node = (k : ℕ) × (tree : NodeTree) × (slice_get trees k ≡ Some tree) × (tree.node ≡ node)

pub record AreTreesBut (hole : Option ℕ) (trees : List NodeTree) (cells : List KeyCell) : Type 0 where
  pub each : (k : ℕ) (tree : NodeTree) → slice_get trees k ≡ Some tree → IsTreeBut hole tree.node tree.marks cells
  pub has : (at : ℕ) (cell : KeyCell) → slice_get cells at ≡ Some cell → IsAmong trees cell.log.node

abbrev pub AreTrees : List NodeTree → List KeyCell → Type 0
AreTrees trees cells = AreTreesBut None trees cells

-- a cell with this number may stand at a node
pub record HasPlace (trees : List NodeTree) (node at : ℕ) : Type 0 where
  pub among : IsAmong trees node
  pub long : (k : ℕ) (tree : NodeTree) → slice_get trees k ≡ Some tree → tree.node ≡ node → at < length tree.marks

-- each of these may, the first with this number
pub record HavePlaces (trees : List NodeTree) (first : ℕ) (cells : List KeyCell) : Type 0 where
  pub each : (k : ℕ) (cell : KeyCell) → slice_get cells k ≡ Some cell → HasPlace trees cell.log.node (first + k)

-- longer lists with the same entries
pub record IsLonger (old new : NodeTree) : Type 0 where
  pub node : new.node ≡ old.node
  pub entries : (i : ℕ) → entry_at new.marks i ≡ entry_at old.marks i
  pub long : length old.marks ≤ length new.marks

pub record AreLonger (old new : List NodeTree) : Type 0 where
  pub back : (k : ℕ) (tree : NodeTree) → slice_get new k ≡ Some tree → (was : NodeTree) × (slice_get old k ≡ Some was) × IsLonger was tree
  pub forth : (k : ℕ) (tree : NodeTree) → slice_get old k ≡ Some tree → (now : NodeTree) × (slice_get new k ≡ Some now) × (now.node ≡ tree.node)

-- ---- the first that is ready, among the cells of some nodes

pub record IsFirstAmong (trees : List NodeTree) (marks : List StageMarks) (cells : List KeyCell) (place : Place) : Type 0 where
  pub cell : KeyCell
  pub is_at : slice_get cells place.at ≡ Some cell
  pub ready : is_ready marks cell ≡ true
  pub node_is : place.node ≡ cell.log.node
  pub among : IsAmong trees place.node
  pub first : (at : ℕ) (other : KeyCell) → slice_get cells at ≡ Some other → IsAmong trees other.log.node → is_ready marks other ≡ true
      → (place.node < other.log.node) ⊎ ((place.node ≡ other.log.node) × (place.at ≤ at))

pub record IsNoneAmong (trees : List NodeTree) (marks : List StageMarks) (cells : List KeyCell) : Type 0 where
  pub none : (at : ℕ) (other : KeyCell) → slice_get cells at ≡ Some other → IsAmong trees other.log.node → is_ready marks other ≡ false

abbrev pub IsBestAmong : List NodeTree → List StageMarks → List KeyCell → Option Place → Type 0
IsBestAmong trees marks cells best = MatchOption best (IsNoneAmong trees marks cells) (IsFirstAmong trees marks cells)

-- the entry of a cell of this node is another
abbrev pub renewed : ℕ → ℕ → TwinMarks → NodeTree → NodeTree
renewed node at entry tree = record tree { marks = if tree.node == node then slice_set tree.marks at entry else tree.marks }

-- that in so many of the lists
pub record IsRenewed (trees after : List NodeTree) (node at : ℕ) (entry : TwinMarks) (k : ℕ) : Type 0 where
  pub done : (i : ℕ) (tree : NodeTree) → i < k → slice_get after i ≡ Some tree → (old : NodeTree) × (slice_get trees i ≡ Some old) × (tree ≡ renewed node at entry old)
  pub left : (i : ℕ) (tree : NodeTree) → k ≤ i → slice_get after i ≡ Some tree → slice_get trees i ≡ Some tree
  pub forth : (i : ℕ) (tree : NodeTree) → slice_get trees i ≡ Some tree → (now : NodeTree) × (slice_get after i ≡ Some now) × (now.node ≡ tree.node)

abbrev pub AreRenewed : List NodeTree → List NodeTree → ℕ → ℕ → TwinMarks → Type 0
AreRenewed trees after node at entry = IsRenewed trees after node at entry (length after)

pub record IsSetLonger (trees : List NodeTree) (k : ℕ) (tree : NodeTree) (after : List NodeTree) : Type 0 where
  pub new : NodeTree
  pub set : after ≡ slice_set trees k new
  pub longer : IsLonger tree new
