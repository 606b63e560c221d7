-- What every step keeps of key cells.
use Rattle.std.specs.Prelude.{◌≡◌, ℕ, zero, suc, ◌+◌, ◌-◌, ◌<◌, ◌≤◌, ◌&&◌, ◌≤ℤ◌, Bool, true, List, [], ◌∷◌, length, slice_get, Option, Some, None}
use Rattle.std.specs.List.{All, count_by, filter, flat_map}
use Rattle.std.specs.Option.{option_map, option_and_then}
use Rattle.beam_values.specs.Intervals.{Interval}
use Rattle.beam_values.specs.Nodes.{is_stateful}
use Rattle.beam_values.specs.States.{KeptState, timer_of, IsFirstTimer}
use Rattle.beam_values.specs.declared.element.Element.{Element}
use Rattle.beam_values.specs.declared.log.LogEntry.{LogEntry}
use Rattle.beam_values.specs.declared.log.LogInput.{LogInput}
use Rattle.beam_values.specs.declared.log.Timer.{Timer}
use Rattle.beam_values.specs.declared.marks.CommitMarks.{CommitMarks}
use Rattle.beam_values.specs.declared.plan.Args.{Args}
use Rattle.beam_values.specs.declared.plan.Node.{Node}
use Rattle.beam_values.specs.declared.plan.NodeKind.{NodeKind}
use Rattle.beam_values.specs.declared.plan.NodeKind.TheVariants.{Stateful}
use Rattle.beam_values.specs.declared.plan.Plan.{Plan}
use Rattle.beam_values.specs.declared.plan.StateKind.{StateKind}
use Rattle.beam_values.specs.declared.value.Value.{Value}
use Rattle.beam_model.specs.Logs.{LeadsIn, is_log_of}
use Rattle.beam_model.specs.Panes.{mark_after, IsCommit}
use Rattle.beam_model.specs.Sessions.{is_keyed}
use Rattle.beam_model.specs.Steps.{steps}
use Rattle.beam_values.specs.declared.arrival.Arrival.{Arrival}
use Rattle.stateful_core.specs.Cells.{KeyCell, cell_arrivals, logs_of}
use Rattle.stateful_core.specs.declared.waiting.Waiting.{Waiting}
use Rattle.stateful_core.specs.Placing.{Done, fresh_cell}
use Rattle.stateful_core.specs.Taking.{inputs_of, is_some}
use Rattle.stateful_core.specs.Timers.{AreTimersIn}

-- ---- The work of a job: the fold of the function over the inputs. Of a function that takes each value once, over "x", "x" and "y" from the fresh state, it
-- leaves the bag "x", "y" and three entries, of which the second has no output.

pub record Folded : Type 0 where
  pub kept : KeptState
  pub entries : List LogEntry

abbrev pub noted : ℕ → LogInput → List Element → Folded → Folded
noted commit input outputs rest =
    record rest { entries = (record { input = input; commit = commit; outputs = outputs }) ∷ rest.entries }

-- what the calls leave and log, each under this commit; None where one is poison
abbrev pub folded : StateKind → Args → Value → Interval → ℕ → KeptState → List LogInput → Option Folded
folded kind args key span commit kept [] = Some (record { kept = kept; entries = [] })
folded kind args key span commit kept (input ∷ inputs) =
    option_and_then (λ s. option_map (noted commit input s.outputs) (folded kind args key span commit s.kept inputs))
    (steps kind args key span input kept)

abbrev pub folded_at : NodeKind → Value → Interval → ℕ → KeptState → List LogInput → Option Folded
folded_at (Stateful work args log) key span commit kept inputs = folded work args key span commit kept inputs
folded_at _ key span commit kept inputs = None

abbrev pub folded_in : Option Node → Value → Interval → ℕ → KeptState → List LogInput → Option Folded
folded_in (Some node) key span commit kept inputs = folded_at node.kind key span commit kept inputs
folded_in None key span commit kept inputs = None

-- what a job leaves is the fold over its cell's live inputs, from the cell's state
pub record IsDoneOf (plan : Plan) (commit : ℕ) (cells : List KeyCell) (done : Done) : Type 0 where
  pub cell : KeyCell
  pub is_at : slice_get cells done.cell ≡ Some cell
  pub count : ℕ
  pub works : cell.live ≡ Some count
  pub folds : folded_in (slice_get plan.nodes cell.log.node) cell.log.key cell.log.span commit cell.kept (inputs_of cell count)
      ≡ Some (record { kept = done.kept; entries = done.entries })

abbrev pub AreDoneOf : Plan → ℕ → List KeyCell → Option Done → Type 0
AreDoneOf plan commit cells None = Unit {0}
AreDoneOf plan commit cells (Some done) = IsDoneOf plan commit cells done

-- ---- one cell

-- an element is of the cell
abbrev pub IsOfCell : KeyCell → Waiting → Type 0
IsOfCell cell waiting = (is_keyed cell.log.key waiting.element ≡ true) × (waiting.element.span ≡ cell.log.span)

-- a live job has that many elements, or else the first timer, which the mark into the node has reached
abbrev pub IsLiveAs : List CommitMarks → KeyCell → Option ℕ → Type 0
IsLiveAs commits cell None = Unit {0}
IsLiveAs commits cell (Some zero) =
    (timer : Timer) × IsFirstTimer cell.kept.timers timer × (timer.time ≤ℤ mark_after commits cell.log.node (length commits - 1))
IsLiveAs commits cell (Some (suc n)) = suc n ≤ length cell.waiting

-- What a key cell is, however its book came about: nothing here looks at its log. In the run of `specs/Placing.antt` cell 1 is at node 3 and has its timer 0
-- set to 3500, which holds the node at 3500; no other timer is set, and none other holds.
pub record IsCellSane (plan : Plan) (commits : List CommitMarks) (cell : KeyCell) : Type 0 where
  -- its node is a Stateful one, and the timers are those that its function sets
  pub timers : AreTimersIn (slice_get plan.nodes cell.log.node) cell.kept.timers
  pub states : length cell.kept.cells ≡ 8
  pub works : IsLiveAs commits cell cell.live
  pub sized : length cell.timer_holds ≡ 8
  -- just the timers that are set hold
  pub holds : (name : ℕ) → is_some (timer_of cell.timer_holds name) ≡ is_some (timer_of cell.kept.timers name)

-- each node, key and window has one cell at most
abbrev pub AreOnce : List KeyCell → Type 0
AreOnce cells = (node : ℕ) (key : Value) (span : Interval) → count_by (is_log_of node key span) (logs_of cells) ≤ 1

pub record AreKeysSane (plan : Plan) (commits : List CommitMarks) (cells : List KeyCell) : Type 0 where
  pub each : All (IsCellSane plan commits) cells
  pub once : AreOnce cells

-- how a cell came about, where a run made it
pub record IsCellKept (plan : Plan) (commits : List CommitMarks) (cell : KeyCell) : Type 0 where
  -- the log leads from the fresh state to the cell's
  pub leads : LeadsIn commits (slice_get plan.nodes cell.log.node) cell.log cell.kept
  pub of_commits : All (λ entry. IsCommit (length commits - 1) entry.commit) cell.log.entries
  pub elements : All (IsOfCell cell) cell.waiting

pub record AreKeysKept (plan : Plan) (commits : List CommitMarks) (cells : List KeyCell) : Type 0 where
  pub sane : AreKeysSane plan commits cells
  pub each : All (IsCellKept plan commits) cells

-- nothing waits and no timer is set
abbrev pub IsCellThrough : KeyCell → Type 0
IsCellThrough cell = (cell.waiting ≡ []) × ((name : ℕ) → timer_of cell.kept.timers name ≡ None)

-- ---- one commit later

pub record Later (commits others : List CommitMarks) : Type 0 where
  pub some : 1 ≤ length commits
  pub sized : length others ≡ length commits + 1
  pub same : (node d : ℕ) → d < length commits → mark_after others node d ≡ mark_after commits node d
  pub rises : (node : ℕ) → mark_after commits node (length commits - 1) ≤ℤ mark_after others node (length commits)

-- ---- what came to one node, key and window

abbrev pub of_key : ℕ → Value → Interval → KeyCell → Bool
of_key node key span cell = is_log_of node key span cell.log

abbrev pub came_to : ℕ → Value → Interval → List KeyCell → List Arrival
came_to node key span cells = flat_map cell_arrivals (filter (of_key node key span) cells)

abbrev pub is_of : ℕ → Value → Interval → Arrival → Bool
is_of node key span arrival = is_log_of node key span (fresh_cell arrival).log

abbrev pub comes : Plan → ℕ → Value → Interval → Arrival → Bool
comes plan node key span arrival = is_stateful plan arrival.node && is_of node key span arrival
