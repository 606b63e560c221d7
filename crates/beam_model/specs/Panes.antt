-- Legal panes: which windows of a key stand after each commit, and which panes fire (The Dataflow Model, windowing and triggers; Beam Programming Guide,
-- Triggers, Window accumulation modes, Handling late data). All commits are looked at at once: entries are counted and never ordered, and what fired before
-- is read off the panes.
use Rattle.std.specs.Prelude.{◌≡◌, ◌⊎◌, ℕ, zero, suc, ◌-◌, ◌≤◌, ◌==◌, nat_le, nat_lt, ℤ, if◌then◌else◌, bytes_eq, Bool, true, false, not, ◌&&◌, List, [], ◌∷◌, length, map, slice_get, unwrap_or, Option, Some, None}
use Rattle.std.specs.List.{All, count_by, filter, flat_map, list_any}
use Rattle.std.specs.List.Sorted.{IsSorted}
use Rattle.std.specs.Option.{option_map}
use Rattle.beam_values.specs.Bags.{IsSameBag}
use Rattle.beam_values.specs.Cells.{pane_cmp}
use Rattle.beam_values.specs.Firing.{firing, is_expired}
use Rattle.beam_values.specs.Grouping.{key_of, part_of, pane_as}
use Rattle.beam_values.specs.Intervals.{Interval}
use Rattle.beam_values.specs.Marks.{marks_at}
use Rattle.beam_values.specs.Nodes.{is_group, strategy_of}
use Rattle.beam_values.specs.Orders.{value_cmp}
use Rattle.beam_values.specs.Sessions.{LiesIn, IsSessionOf}
use Rattle.beam_values.specs.Spans.{same_span, lies_in}
use Rattle.beam_values.specs.Spelling.{spelling}
use Rattle.beam_values.specs.declared.cell.Cell.{Cell}
use Rattle.beam_values.specs.declared.cell.Dropped.{Dropped}
use Rattle.beam_values.specs.declared.cell.Entry.{Entry}
use Rattle.beam_values.specs.declared.cell.Pane.{Pane}
use Rattle.beam_values.specs.declared.element.Element.{Element}
use Rattle.beam_values.specs.declared.element.Timing.{Timing}
use Rattle.beam_values.specs.declared.element.Timing.TheVariants.{OnTime}
use Rattle.beam_values.specs.declared.marks.CommitMarks.{CommitMarks}
use Rattle.beam_values.specs.declared.plan.Mode.{Mode}
use Rattle.beam_values.specs.declared.plan.Mode.TheVariants.{Discarding, Accumulating}
use Rattle.beam_values.specs.declared.plan.NodeKind.{NodeKind}
use Rattle.beam_values.specs.declared.plan.NodeKind.TheVariants.{Group}
use Rattle.beam_values.specs.declared.plan.Plan.{Plan}
use Rattle.beam_values.specs.declared.plan.Strategy.{Strategy}
use Rattle.beam_values.specs.declared.plan.Strategy.TheVariants.{Sessions}
use Rattle.beam_values.specs.declared.plan.Trigger.{Trigger}
use Rattle.beam_values.specs.declared.value.Value.{Value}
use Rattle.beam_model.specs.Plans.{default_trigger}
use Rattle.beam_model.specs.Sessions.{is_keyed}

-- ---- what a Group took

-- an element as it arrived at a Group, and the commit that brought it
pub record Taken : Type 0 where
  pub node : ℕ
  pub element : Element
  pub commit : ℕ

abbrev pub taken_entry : ℕ → Entry → Taken
taken_entry node entry = record { node = node; element = entry.element; commit = entry.commit }

abbrev pub taken_drop : Dropped → Taken
taken_drop dropped = record { node = dropped.node; element = dropped.element; commit = dropped.commit }

-- all that cells have, wherever it is kept now
abbrev pub taken_by : List Cell → List Taken
taken_by cells = flat_map (λ cell. map (taken_entry cell.node) cell.entries) cells

-- of one node and key
abbrev pub is_at_key : ℕ → Value → Taken → Bool
is_at_key node key taken = taken.node == node && is_keyed key taken.element

abbrev pub taken_at : ℕ → Value → List Taken → List Taken
taken_at node key taken = filter (is_at_key node key) taken

abbrev pub is_pane_at_key : ℕ → Value → Pane → Bool
is_pane_at_key node key pane = pane.node == node && is_keyed key pane.element

abbrev pub panes_at : ℕ → Value → List Pane → List Pane
panes_at node key panes = filter (is_pane_at_key node key) panes

-- ---- the rules of a Group

-- whether its windows merge, and its trigger
pub record GroupRules : Type 0 where
  pub merges : Bool
  pub trigger : Trigger

abbrev pub is_sessions : Strategy → Bool
is_sessions (Sessions gap) = true
is_sessions _ = false

abbrev pub trigger_in : NodeKind → Trigger
trigger_in (Group trigger) = trigger
trigger_in _ = default_trigger

abbrev pub trigger_of : Plan → ℕ → Trigger
trigger_of plan node = unwrap_or (option_map (λ n. trigger_in n.kind) (slice_get plan.nodes node)) default_trigger

abbrev pub rules_of : Plan → ℕ → GroupRules
rules_of plan node = record { merges = is_sessions (strategy_of plan node); trigger = trigger_of plan node }

-- the mark into a node after each commit, from the opening, commit 0, on
abbrev pub mark_after : List CommitMarks → ℕ → ℕ → ℤ
mark_after commits node c = (marks_at (unwrap_or (option_map (λ commit. commit.marks) (slice_get commits c)) []) node).mark_in

-- ---- windows, commit by commit, of one node and key; `mark` is the mark into the node after each commit

-- An arrival of this commit is late where the mark before the commit is at least its own window's end plus the lateness. The opening brings nothing.
abbrev pub is_late : GroupRules → (ℕ → ℤ) → ℕ → Interval → Bool
is_late rules mark zero own = true
is_late rules mark (suc c) own = is_expired rules.trigger own.end (mark c)

-- an entry of this commit has this own window
abbrev pub arrives : List Taken → ℕ → Interval → Bool
arrives taken c w = nat_le 1 (count_by (λ t. t.commit == c && same_span t.element.span w) taken)

-- What stands after a commit, of what stood before it and the own windows of its entries: all of these; where windows merge, those that stood and are
-- expired, and the sessions of the others.
abbrev pub StandsNext : GroupRules → ℤ → (Interval → Type 0) → (Interval → Type 0) → Interval → Type 0
StandsNext rules mark stood arrived w =
    elim rules.merges [
      | true ↦ (stood w × (is_expired rules.trigger w.end mark ≡ true))
          ⊎ IsSessionOf (λ v. (stood v × (is_expired rules.trigger v.end mark ≡ false)) ⊎ arrived v) w
      | false ↦ stood w ⊎ arrived w
    ]

-- A window of the key stands after this commit, where `arrived` are the own windows of the entries of each; nothing stands after the opening.
abbrev pub Stands : GroupRules → (ℕ → ℤ) → (ℕ → Interval → Bool) → ℕ → Interval → Type 0
Stands rules mark arrived zero w = ⊥
Stands rules mark arrived (suc c) w = StandsNext rules (mark c) (Stands rules mark arrived c) (λ v. arrived (suc c) v ≡ true) w

-- an entry belongs to a window that is its own; where windows merge, to each in which its own lies
abbrev pub belongs : GroupRules → Interval → Taken → Bool
belongs rules w t = if rules.merges then lies_in t.element.span w else same_span t.element.span w

-- ---- panes, commit by commit, of one node and key

-- a pane has shown an entry: it is of the entry's commit or a later one, and of a window to which the entry belongs
abbrev pub shows : GroupRules → Taken → Pane → Bool
shows rules t pane = nat_le t.commit pane.commit && belongs rules pane.element.span t

abbrev pub is_unseen : GroupRules → List Pane → Taken → Bool
is_unseen rules earlier t = not (list_any (shows rules t) earlier)

abbrev pub is_of_window : Interval → Pane → Bool
is_of_window w pane = same_span pane.element.span w

abbrev pub is_on_time : Timing → Bool
is_on_time OnTime = true
is_on_time _ = false

abbrev pub is_on_time_of : Interval → Pane → Bool
is_on_time_of w pane = is_of_window w pane && is_on_time pane.element.pane.timing

-- what a pane holds of the entries that belong to its window: those that no earlier pane has shown, or all
abbrev pub held : Mode → GroupRules → List Pane → List Taken → List Taken
held Discarding rules earlier entries = filter (is_unseen rules earlier) entries
held Accumulating rules earlier entries = entries

-- a pane of this timing and index holds the parts of these entries, ascending
pub record IsPaneOf (node : ℕ) (key : Value) (c : ℕ) (w : Interval) (timing : Timing) (index : ℕ) (entries : List Taken) (pane : Pane) : Type 0 where
  pub parts : List Value
  pub holds : pane.element ≡ pane_as (record { timing = timing; index = index }) (key_of pane.element) w parts
  pub keyed : is_keyed key pane.element ≡ true
  pub ascending : IsSorted value_cmp parts
  pub all : IsSameBag parts (map (λ t. part_of t.element) entries)
  pub here : pane.node ≡ node
  pub commit : pane.commit ≡ c

-- the panes of a window in a commit: none, or one
abbrev pub IsFiredAs : ℕ → Value → ℕ → Interval → ℕ → List Taken → Option Timing → List Pane → Type 0
IsFiredAs node key c w index entries None fired = fired ≡ []
IsFiredAs node key c w index entries (Some timing) fired =
    (pane : Pane) × (fired ≡ pane ∷ []) × IsPaneOf node key c w timing index entries pane

-- The panes of a window that stands after commit c, at the mark after it, where `entries` belong to it and are of commits up to c, and `earlier` fired
-- before: what the trigger gives, with the next index.
abbrev pub IsFired : GroupRules → ℕ → Value → ℕ → ℤ → Interval → List Taken → List Pane → List Pane → Type 0
IsFired rules node key c mark w entries earlier fired =
    IsFiredAs node key c w (count_by (is_of_window w) earlier) (held rules.trigger.mode rules earlier entries)
    (firing rules.trigger w.end mark (list_any (is_on_time_of w) earlier) (count_by (is_unseen rules earlier) entries)) fired

abbrev pub entries_upto : GroupRules → Interval → ℕ → List Taken → List Taken
entries_upto rules w c taken = filter (λ t. belongs rules w t && nat_le t.commit c) taken

abbrev pub panes_before : ℕ → List Pane → List Pane
panes_before c panes = filter (λ pane. nat_lt pane.commit c) panes

abbrev pub panes_in : ℕ → Interval → List Pane → List Pane
panes_in c w panes = filter (λ pane. pane.commit == c && is_of_window w pane) panes

-- ---- what is legal of one node and key, after the commits from 1 to `last`

abbrev pub IsCommit : ℕ → ℕ → Type 0
IsCommit last c = (1 ≤ c) × (c ≤ last)

pub record IsLegalHistory (rules : GroupRules) (node : ℕ) (key : Value) (mark : ℕ → ℤ) (last : ℕ) (taken dropped : List Taken) (panes : List Pane) : Type 0 where
  -- an arrival is dropped exactly where it is late
  pub kept : count_by (λ t. is_late rules mark t.commit t.element.span) taken ≡ 0
  pub late : All (λ t. is_late rules mark t.commit t.element.span ≡ true) dropped
  -- each is of a commit so far
  pub taken_commits : count_by (λ t. nat_lt last t.commit) taken ≡ 0
  pub dropped_commits : All (λ t. IsCommit last t.commit) dropped
  pub pane_commits : All (λ pane. IsCommit last pane.commit) panes
  -- what stood lies in what stands next, and what arrived in what stands then
  pub onward : (c : ℕ) → suc c ≤ last → (v : Interval) → Stands rules mark (arrives taken) c v → (w : Interval) × Stands rules mark (arrives taken) (suc c) w × LiesIn v w
  pub placed : (c : ℕ) → c ≤ last → (v : Interval) → arrives taken c v ≡ true → (w : Interval) × Stands rules mark (arrives taken) c w × LiesIn v w
  -- each window that stands fires by the trigger, and no other does
  pub fired : (c : ℕ) (w : Interval) → 1 ≤ c → c ≤ last → Stands rules mark (arrives taken) c w
      → IsFired rules node key c (mark c) w (entries_upto rules w c taken) (panes_before c panes) (panes_in c w panes)
  pub only : All (λ pane. Stands rules mark (arrives taken) pane.commit pane.element.span) panes

-- a window stood after a commit, and after the next one did not, but one in which it lies
pub record IsTakenFirst (rules : GroupRules) (mark : ℕ → ℤ) (taken : List Taken) (last : ℕ) (gone into : Interval) : Type 0 where
  pub c : ℕ
  pub within : suc c ≤ last
  pub stood : Stands rules mark (arrives taken) c gone
  pub stands_no_more : Stands rules mark (arrives taken) (suc c) gone → ⊥
  pub stands : Stands rules mark (arrives taken) (suc c) into
  pub lies : LiesIn gone into

-- a cell whose window stands has the entries that belong to it; one that was merged has none, and names the window that took it first
abbrev pub HasEntries : GroupRules → ℕ → (ℕ → ℤ) → ℕ → List Taken → Interval → List Entry → Option Interval → Type 0
HasEntries rules node mark last taken w entries None =
    Stands rules mark (arrives taken) last w × IsSameBag (map (taken_entry node) entries) (filter (belongs rules w) taken)
HasEntries rules node mark last taken w entries (Some into) =
    (Stands rules mark (arrives taken) last w → ⊥) × (entries ≡ []) × IsTakenFirst rules mark taken last w into

-- its other fields tell its panes
pub record TellsPanes (rules : GroupRules) (node : ℕ) (panes : List Pane) (cell : Cell) : Type 0 where
  pub index : cell.next_index ≡ count_by (is_of_window cell.span) panes
  pub on_time : cell.on_time ≡ list_any (is_on_time_of cell.span) panes
  pub shown : All (λ entry. entry.shown ≡ list_any (shows rules (taken_entry node entry)) panes) cell.entries

abbrev pub is_cell_at_key : ℕ → Value → Cell → Bool
is_cell_at_key node key cell = cell.node == node && bytes_eq (spelling cell.key) (spelling key)

-- there is one cell for each window that ever stood, and for no other
pub record AreLegalCells (rules : GroupRules) (node : ℕ) (mark : ℕ → ℤ) (last : ℕ) (taken : List Taken) (panes : List Pane) (cells : List Cell) : Type 0 where
  pub has : All (λ cell. HasEntries rules node mark last taken cell.span cell.entries cell.merged_into) cells
  pub tells : All (TellsPanes rules node panes) cells
  pub once : (w : Interval) → count_by (λ cell. same_span cell.span w) cells ≤ 1
  pub ever : (c : ℕ) (w : Interval) → c ≤ last → Stands rules mark (arrives taken) c w → 1 ≤ count_by (λ cell. same_span cell.span w) cells

-- ---- what is legal of a run

-- each entry of a cell has its key
abbrev pub IsKeyed : Cell → Type 0
IsKeyed cell = All (λ entry. is_keyed cell.key entry.element ≡ true) cell.entries

-- one node and key
pub record IsLegalAt (plan : Plan) (commits : List CommitMarks) (cells : List Cell) (dropped : List Dropped) (panes : List Pane) (node : ℕ) (key : Value) : Type 0 where
  pub history : IsLegalHistory (rules_of plan node) node key (mark_after commits node) (length commits - 1)
      (taken_at node key (taken_by cells)) (taken_at node key (map taken_drop dropped)) (panes_at node key panes)
  pub cells_tell : AreLegalCells (rules_of plan node) node (mark_after commits node) (length commits - 1)
      (taken_at node key (taken_by cells)) (panes_at node key panes) (filter (is_cell_at_key node key) cells)

-- The panes, cells and dropped elements of a run whose commits, from the opening on, left these marks: all are at Groups, each of a commit from 1 to the
-- last; of each Group and key they are legal; and the panes stand by commit, node, key and window.
pub record ArePanesLegal (plan : Plan) (commits : List CommitMarks) (cells : List Cell) (dropped : List Dropped) (panes : List Pane) : Type 0 where
  pub sized : All (λ commit. length commit.marks ≡ length plan.nodes) commits
  pub cells_at : All (λ cell. is_group plan cell.node ≡ true) cells
  pub dropped_at : All (λ lost. is_group plan lost.node ≡ true) dropped
  pub panes_at : All (λ pane. is_group plan pane.node ≡ true) panes
  pub each : (node : ℕ) (key : Value) → is_group plan node ≡ true → IsLegalAt plan commits cells dropped panes node key
  pub keyed : All IsKeyed cells
  pub ordered : IsSorted pane_cmp panes
