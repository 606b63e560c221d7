-- What a commit does to all Groups of a plan.
use Rattle.std.specs.Prelude.{◌≡◌, ℕ, suc, ◌+◌, ℤ, ◌≤ℤ◌, ◌+ℤ◌, Bool, true, not, ◌&&◌, ◌==◌, List, [], ◌∷◌, ◌++◌, length, map, take, slice_get, Some}
use Rattle.std.specs.Int.{int_min}
use Rattle.std.specs.List.{All, filter}
use Rattle.std.specs.List.Sorted.{IsSorted}
use Rattle.beam_values.specs.Bags.{IsSameBag}
use Rattle.beam_values.specs.Cells.{pane_cmp}
use Rattle.beam_values.specs.Intervals.{Interval}
use Rattle.beam_values.specs.Marks.{marks_at, AreMarks}
use Rattle.beam_values.specs.Nodes.{is_group, strategy_of}
use Rattle.beam_values.specs.declared.arrival.Arrival.{Arrival}
use Rattle.beam_values.specs.declared.cell.Cell.{Cell}
use Rattle.beam_values.specs.declared.cell.Dropped.{Dropped}
use Rattle.beam_values.specs.declared.cell.Pane.{Pane}
use Rattle.beam_values.specs.declared.element.Element.{Element}
use Rattle.beam_values.specs.declared.marks.CommitMarks.{CommitMarks}
use Rattle.beam_values.specs.declared.marks.StageMarks.{StageMarks}
use Rattle.beam_values.specs.declared.plan.Plan.{Plan}
use Rattle.beam_values.specs.declared.plan.Strategy.{Strategy}
use Rattle.beam_values.specs.declared.plan.Strategy.TheVariants.{Sessions}
use Rattle.beam_values.specs.declared.value.Value.{Value}
use Rattle.beam_model.specs.Holds.{least_hold, pane_hold}
use Rattle.beam_model.specs.Panes.{Taken, rules_of, taken_by, is_cell_at_key, panes_at, IsKeyed, ArePanesLegal}
use Rattle.beam_model.specs.Sessions.{is_keyed}
use Rattle.group_cells.specs.Rounds.{is_in_time, IsRound}

-- what Groups are seen as: the plan whose Groups they are, their cells in the order in which they were made, and the elements that they dropped
pub record SeenGroups : Type 0 where
  pub plan : Plan
  pub cells : List Cell
  pub dropped : List Dropped

-- an arrival at a Group
abbrev pub is_at_group : Plan → Arrival → Bool
is_at_group plan arrival = is_group plan arrival.node

-- an arrival isn't too late at the marks before the commit
abbrev pub arrives_in_time : Plan → List StageMarks → Arrival → Bool
arrives_in_time plan before arrival =
    is_in_time (rules_of plan arrival.node) (marks_at before arrival.node).mark_in arrival.element

abbrev pub is_taken : Plan → List StageMarks → Arrival → Bool
is_taken plan before arrival = is_at_group plan arrival && arrives_in_time plan before arrival

abbrev pub is_dropped : Plan → List StageMarks → Arrival → Bool
is_dropped plan before arrival = is_at_group plan arrival && not (arrives_in_time plan before arrival)

abbrev pub taken_arrival : ℕ → Arrival → Taken
taken_arrival c arrival = record { node = arrival.node; element = arrival.element; commit = c }

abbrev pub dropped_arrival : ℕ → Arrival → Dropped
dropped_arrival c arrival = record { node = arrival.node; element = arrival.element; commit = c }

-- the elements that arrived at one node with one key
abbrev pub elements_keyed : ℕ → Value → List Arrival → List Element
elements_keyed node key arrivals =
    map (λ arrival. arrival.element) (filter (λ arrival. arrival.node == node && is_keyed key arrival.element) arrivals)

-- a cell is of a Group
abbrev pub IsAtGroup : Plan → Cell → Type 0
IsAtGroup plan cell = is_group plan cell.node ≡ true

abbrev pub cells_keyed : ℕ → Value → List Cell → List Cell
cells_keyed node key cells = filter (is_cell_at_key node key) cells

-- the own window of an arrival at a Group of sessions has the length of the gap
abbrev pub HasLength : Strategy → Interval → Type 0
HasLength (Sessions gap) span = span.end ≡ span.start +ℤ gap
HasLength _ span = Unit {0}

abbrev pub HasGap : Plan → Arrival → Type 0
HasGap plan arrival = is_at_group plan arrival ≡ true → HasLength (strategy_of plan arrival.node) arrival.element.span

abbrev pub HaveGaps : Plan → List Taken → Type 0
HaveGaps plan taken = All (λ t. HasLength (strategy_of plan t.node) t.element.span) taken

-- at no node is a mark lower afterwards
abbrev pub NoneFalls : List StageMarks → List StageMarks → Type 0
NoneFalls old new =
    (n : ℕ) → ((marks_at old n).mark_in ≤ℤ (marks_at new n).mark_in) × ((marks_at old n).mark_out ≤ℤ (marks_at new n).mark_out)

-- the marks that follow from these least holds aren't below the marks before
abbrev pub RisesFrom : Plan → (ℕ → ℤ) → List StageMarks → Type 0
RisesFrom plan hold before = (marks : List StageMarks) → AreMarks plan hold marks → NoneFalls before marks

-- the least hold of a node, once these panes were fired and wait
abbrev pub hold_with : (ℕ → ℤ) → List StageMarks → List Pane → ℕ → ℤ
hold_with hold before fired n = int_min (hold n) (least_hold (map (pane_hold before) fired) n)

-- no mark falls from one commit to the next
pub record NeverFalls (commits : List CommitMarks) : Type 0 where
  pub each : (c : ℕ) (old new : CommitMarks) → slice_get commits c ≡ Some old → slice_get commits (suc c) ≡ Some new → NoneFalls old.marks new.marks

abbrev pub as_commit : List StageMarks → CommitMarks
as_commit marks = record { marks = marks }

-- What is legal before the commit is legal after it: for any marks of the commits so far, from the opening on, that never fall and end with the marks before
-- this one, and any panes fired so far, where what sessions took has own windows of the gap's length.
abbrev pub KeepsLegal : Plan → ℕ → List StageMarks → List StageMarks → SeenGroups → SeenGroups → List Pane → Type 0
KeepsLegal plan c before after old new fired =
    (earlier : List CommitMarks) (panes : List Pane)
    → length earlier + 1 ≡ c → NeverFalls (earlier ++ as_commit before ∷ [])
    → HaveGaps plan (taken_by old.cells)
    → ArePanesLegal plan (earlier ++ as_commit before ∷ []) old.cells old.dropped panes
    → ArePanesLegal plan (earlier ++ as_commit before ∷ as_commit after ∷ []) new.cells new.dropped (panes ++ fired)

-- One commit of all Groups, Group by Group and key by key.
pub record AreRounds (plan : Plan) (c : ℕ) (before after : List StageMarks) (arrivals : List Arrival) (cells new : List Cell) (fired : List Pane) : Type 0 where
  pub each : (node : ℕ) (key : Value) → is_group plan node ≡ true
      → IsRound (rules_of plan node) node key c (marks_at before node).mark_in (marks_at after node).mark_in
      (elements_keyed node key arrivals) (cells_keyed node key cells) (cells_keyed node key new) (panes_at node key fired)
  -- every cell and every pane is of a Group
  pub cells_at : All (IsAtGroup plan) new
  pub at_groups : All (λ pane. is_group plan pane.node ≡ true) fired
  pub of_commit : All (λ pane. pane.commit ≡ c) fired
  pub ordered : IsSorted pane_cmp fired

-- what stays of a cell, whatever it takes and fires
pub record CellPlace : Type 0 where
  pub node : ℕ
  pub key : Value
  pub span : Interval

abbrev pub cell_place : Cell → CellPlace
cell_place cell = record { node = cell.node; key = cell.key; span = cell.span }

-- what a commit answers and leaves, beside what is legal
pub record IsCommitted (plan : Plan) (c : ℕ) (before after : List StageMarks) (hold : ℕ → ℤ) (arrivals left : List Arrival) (old new : SeenGroups) (fired : List Pane) : Type 0 where
  -- no arrival is lost: those in time are entries now, in whichever cells
  pub entries : All IsKeyed old.cells → IsSameBag (taken_by new.cells) (taken_by old.cells ++ map (taken_arrival c) (filter (is_taken plan before) arrivals))
  -- those that are too late are dropped, in order
  pub dropped : new.dropped ≡ old.dropped ++ map (dropped_arrival c) (filter (is_dropped plan before) arrivals)
  -- those at other nodes are left
  pub others : left ≡ filter (λ arrival. not (is_at_group plan arrival)) arrivals
  -- the panes are of this commit, by node, key and window
  pub at_groups : All (λ pane. is_group plan pane.node ≡ true) fired
  pub of_commit : All (λ pane. pane.commit ≡ c) fired
  pub ordered : IsSorted pane_cmp fired
  -- the cells keep their places, and new ones stand behind them
  pub places : take (length old.cells) (map cell_place new.cells) ≡ map cell_place old.cells
  pub plan_stays : new.plan ≡ old.plan
  -- the marks are those of the commit, with the panes that wait now
  pub marks : AreMarks plan (hold_with hold before fired) after
