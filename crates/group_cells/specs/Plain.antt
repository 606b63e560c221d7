-- Cells of all Groups and keys in one list: what becomes of those of one Group and key, while the others stay as they are.
use Rattle.std.specs.Prelude.{◌≡◌, ℕ, ◌==◌, ℤ, Bool, true, false, ◌&&◌, if◌then◌else◌, List, [], ◌∷◌, ◌++◌, map, length, fold, Option, None}
use Rattle.std.specs.Prelude.{◌≤◌, Some, slice_get, slice_set}
use Rattle.std.specs.Int.{int_min}
use Rattle.std.specs.List.Sorted.{IsPermutation, IsSorted}
use Rattle.beam_values.specs.Cells.{pane_cmp}
use Rattle.std.specs.List.{All, count_by, filter, flat_map, list_any}
use Rattle.beam_values.specs.Intervals.{Interval}
use Rattle.beam_values.specs.Marks.{AreMarks, least_mark, mark_into, marks_at, node_marks}
use Rattle.beam_values.specs.Nodes.{is_group}
use Rattle.beam_values.specs.declared.arrival.Arrival.{Arrival}
use Rattle.beam_values.specs.declared.cell.Cell.{Cell}
use Rattle.beam_values.specs.declared.cell.Entry.{Entry}
use Rattle.beam_values.specs.declared.cell.Pane.{Pane}
use Rattle.beam_values.specs.declared.element.Element.{Element}
use Rattle.beam_values.specs.declared.element.Timing.{Timing}
use Rattle.beam_values.specs.declared.marks.StageMarks.{StageMarks}
use Rattle.beam_values.specs.declared.plan.Node.{Node}
use Rattle.beam_values.specs.declared.plan.Plan.{Plan}
use Rattle.beam_values.specs.declared.value.Value.{Value}
use Rattle.beam_model.specs.Holds.{pane_hold}
use Rattle.beam_model.specs.Panes.{GroupRules, is_cell_at_key, panes_at, rules_of, taken_entry, IsFiredAs}
use Rattle.beam_model.specs.Sessions.{is_keyed}
use Rattle.group_cells.specs.Placing.{Opening, fresh_cell, handed_over, is_same_key, once_opened, opened_all, put_all, stands_as, takes, with_entry}
use Rattle.group_cells.specs.Commits.{CellPlace, IsAtGroup, cell_place, cells_keyed, elements_keyed, hold_with, is_taken}
use Rattle.group_cells.specs.Cells.{after_firing, entries_held, firing_of, once_fired, AreTheirPanes}
use Rattle.group_cells.specs.Rounds.{AreWindowsFor, entry_of, open_windows}

-- of each Group, key and window at most one cell stands
abbrev pub StandOnce : List Cell → Type 0
StandOnce cells = (node : ℕ) (key : Value) (w : Interval) → count_by (stands_as w) (filter (is_cell_at_key node key) cells) ≤ 1

-- what holds of the cells of Groups between commits: each is of a Group, and none stands twice
pub record AreCells (plan : Plan) (cells : List Cell) : Type 0 where
  pub groups : All (IsAtGroup plan) cells
  pub once : StandOnce cells

abbrev pub stands_at : ℕ → Value → Interval → Cell → Bool
stands_at node key w cell = is_cell_at_key node key cell && stands_as w cell

-- One cell, where a window of this Group and key is opened. Of the Group 1 with the cells `[0, 10)` of the key a and `[0, 10)` of b, both open, `[0, 19)` of a
-- takes the entries of the first, which names it, and leaves the second.
abbrev pub once_opened_at : GroupRules → ℤ → ℕ → Opening → Cell → Cell
once_opened_at rules before node opening cell =
    if is_cell_at_key node opening.key cell then once_opened rules before opening.span cell else cell

abbrev pub handed_over_at : GroupRules → ℤ → ℕ → Opening → Cell → List Entry
handed_over_at rules before node opening cell =
    if is_cell_at_key node opening.key cell then handed_over rules before opening.span cell else []

abbrev pub opened_at : GroupRules → ℤ → ℕ → List Cell → Opening → List Cell
opened_at rules before node cells opening =
    if list_any (stands_at node opening.key opening.span) cells then cells
    else map (once_opened_at rules before node opening) cells
    ++ fresh_cell node opening.key opening.span (flat_map (handed_over_at rules before node opening) cells) ∷ []

abbrev pub opening_of : Value → Interval → Opening
opening_of key span = record { key = key; span = span }

abbrev pub opened_all_at : GroupRules → ℤ → ℕ → List Opening → List Cell → List Cell
opened_all_at rules before node openings cells = fold (opened_at rules before node) cells openings

-- an entry goes to the first cell of this Group and key that takes it
abbrev pub takes_at : GroupRules → ℕ → Value → Entry → Cell → Bool
takes_at rules node key entry cell = is_cell_at_key node key cell && takes rules entry cell

abbrev pub put_at : GroupRules → ℕ → Value → Entry → List Cell → List Cell
put_at rules node key entry [] = []
put_at rules node key entry (cell ∷ cells) =
    if takes_at rules node key entry cell then with_entry entry cell ∷ cells else cell ∷ put_at rules node key entry cells

abbrev pub put_all_at : GroupRules → ℕ → Value → List Entry → List Cell → List Cell
put_all_at rules node key entries cells = fold (λ cells entry. put_at rules node key entry cells) cells entries

-- the entries of one Group and key are placed
pub record ArePlacedAt (rules : GroupRules) (before : ℤ) (node : ℕ) (key : Value) (c : ℕ) (own : List Element) (cells placed : List Cell) : Type 0 where
  pub spans : List Interval
  pub windows : AreWindowsFor rules.merges (map (λ e. e.span) own) (open_windows rules before (filter (is_cell_at_key node key) cells)) spans
  pub places : placed ≡ put_all_at rules node key (map (entry_of c) own) (opened_all_at rules before node (map (opening_of key) spans) cells)

-- one Group and key in commit c: the cells once its entries that are in time are placed
pub record ArePlaced (rules : GroupRules) (before : ℤ) (node : ℕ) (key : Value) (c : ℕ) (own : List Element) (cells placed : List Cell) : Type 0 where
  pub openings : List Opening
  pub keyed : All (λ opening. is_same_key opening.key key ≡ true) openings
  pub windows : AreWindowsFor rules.merges (map (λ e. e.span) own) (open_windows rules before cells) (map (λ opening. opening.span) openings)
  pub places : placed ≡ put_all rules (map (entry_of c) own) (opened_all rules before node openings cells)

abbrev pub is_arrival_at : ℕ → Value → Arrival → Bool
is_arrival_at node key arrival = arrival.node == node && is_keyed key arrival.element

-- the arrivals of a commit that Groups take are placed
pub record AreAllPlaced (plan : Plan) (before : List StageMarks) (c : ℕ) (taken : List Arrival) (cells placed : List Cell) : Type 0 where
  pub each : (node : ℕ) (key : Value) → ArePlaced (rules_of plan node) (marks_at before node).mark_in node key c
      (elements_keyed node key taken) (filter (is_cell_at_key node key) cells) (filter (is_cell_at_key node key) placed)
  -- the cells keep their places, and new ones, at Groups, stand behind them
  pub behind : List CellPlace
  pub behind_at : All (λ place. is_group plan place.node ≡ true) behind
  pub places : map cell_place placed ≡ map cell_place cells ++ behind

-- All cells of a node fire, and no other: of cells of the nodes 1 and 3, both due, only the first fires with the node 1.
abbrev pub firing_at : GroupRules → ℕ → ℤ → Cell → Option Timing
firing_at rules node mark cell = if cell.node == node then firing_of rules mark cell else None

abbrev pub after_node : GroupRules → ℕ → ℤ → Cell → Cell
after_node rules node mark cell = once_fired (firing_at rules node mark cell) cell

abbrev pub FiresAs : GroupRules → ℕ → ℕ → ℤ → Cell → List Pane → Type 0
FiresAs rules node c mark cell fired =
    IsFiredAs cell.node cell.key c cell.span cell.next_index (map (taken_entry cell.node) (entries_held rules.trigger.mode cell.entries))
    (firing_at rules node mark cell) fired

-- their panes, one cell after another
abbrev pub AreFired : GroupRules → ℕ → ℕ → ℤ → List Cell → List Pane → Type 0
AreFired rules node c mark [] fired = fired ≡ []
AreFired rules node c mark (cell ∷ cells) fired =
    (here : List Pane) × (rest : List Pane) × (fired ≡ here ++ rest) × FiresAs rules node c mark cell here × AreFired rules node c mark cells rest

-- all cells of a Group fire; its panes stand by key and window
pub record AreGroupFired (rules : GroupRules) (node c : ℕ) (mark : ℤ) (cells new : List Cell) (fired : List Pane) : Type 0 where
  pub panes : List Pane
  pub each : AreFired rules node c mark cells panes
  pub order : IsPermutation panes fired
  pub ordered : IsSorted pane_cmp fired
  pub fires : new ≡ map (after_node rules node mark) cells

-- the marks of one node are written, with the holds of the panes that it fires
pub record IsNodeDone (plan : Plan) (before : List StageMarks) (hold : ℤ) (c n : ℕ) (cells new : List Cell) (marks written : List StageMarks)
    (fired : List Pane) : Type 0 where
  pub node : Node
  pub there : slice_get plan.nodes n ≡ Some node
  pub fires : is_group plan n ≡ true → AreGroupFired (rules_of plan n) n c (mark_into marks node.inputs) cells new fired
  pub rests : is_group plan n ≡ false → (new ≡ cells) × (fired ≡ [])
  pub marks_are : written
      ≡ slice_set marks n (node_marks marks node.inputs (int_min hold (least_mark (map (λ pane. (pane_hold before pane).mark) fired))))

-- of one Group and key: its cells once they fired at this mark, and their panes
abbrev pub AreKeyFired : Plan → ℕ → ℤ → List Cell → List Cell → List Pane → ℕ → Value → Type 0
AreKeyFired plan c mark cells new fired node key =
    (cells_keyed node key new ≡ map (after_firing (rules_of plan node) mark) (cells_keyed node key cells))
    × (StandOnce cells → AreTheirPanes (rules_of plan node) node key c mark (cells_keyed node key cells) (panes_at node key fired))

-- the marks of all nodes are written, and all Groups fired
pub record AreNodesFired (plan : Plan) (before : List StageMarks) (hold : ℕ → ℤ) (c : ℕ) (cells new : List Cell) (marks : List StageMarks)
    (fired : List Pane) : Type 0 where
  pub marks_are : AreMarks plan (hold_with hold before fired) marks
  pub each : (node : ℕ) (key : Value) → is_group plan node ≡ true → AreKeyFired plan c (marks_at marks node).mark_in cells new fired node key
  pub groups : All (λ pane. is_group plan pane.node ≡ true) fired
  pub of_commit : All (λ pane. pane.commit ≡ c) fired
  pub ordered : IsSorted pane_cmp fired
  pub places : map cell_place new ≡ map cell_place cells
  -- a cell fires at most one pane
  pub few : length fired ≤ length cells

-- one commit: what Groups take is placed, and then all nodes in their order get their marks and fire
pub record AreCellsNext (plan : Plan) (before : List StageMarks) (hold : ℕ → ℤ) (c : ℕ) (arrivals : List Arrival) (cells new : List Cell)
    (marks : List StageMarks) (fired : List Pane) : Type 0 where
  pub placed : List Cell
  pub places : AreAllPlaced plan before c (filter (is_taken plan before) arrivals) cells placed
  pub fires : AreNodesFired plan before hold c placed new marks fired
