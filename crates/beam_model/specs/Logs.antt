-- Legal logs: the calls of a Stateful node for one key and window, in one order (Beam Programming Guide, State and Timers).
use Rattle.std.specs.Prelude.{◌≡◌, ℕ, ◌≤◌, ◌-◌, ◌==◌, ◌≤ℤ◌, Bool, ◌&&◌, true, bytes_eq, List, [], ◌∷◌, length, slice_get, Option, Some, None}
use Rattle.std.specs.List.{All, count_by}
use Rattle.beam_values.specs.Intervals.{Interval}
use Rattle.beam_values.specs.Spans.{same_span}
use Rattle.beam_values.specs.Spelling.{spelling}
use Rattle.beam_values.specs.States.{KeptState, fresh_state, timer_of, IsFirstTimer}
use Rattle.beam_values.specs.declared.log.KeyLog.{KeyLog}
use Rattle.beam_values.specs.declared.log.LogEntry.{LogEntry}
use Rattle.beam_values.specs.declared.log.LogInput.{LogInput}
use Rattle.beam_values.specs.declared.log.LogInput.TheVariants.{Arrived, Fired}
use Rattle.beam_values.specs.declared.marks.CommitMarks.{CommitMarks}
use Rattle.beam_values.specs.declared.plan.Args.{Args}
use Rattle.beam_values.specs.declared.plan.Node.{Node}
use Rattle.beam_values.specs.declared.plan.NodeKind.{NodeKind}
use Rattle.beam_values.specs.declared.plan.NodeKind.TheVariants.{Stateful}
use Rattle.beam_values.specs.declared.plan.Plan.{Plan}
use Rattle.beam_values.specs.declared.plan.StateKind.{StateKind}
use Rattle.beam_values.specs.declared.value.Value.{Value}
use Rattle.beam_model.specs.Panes.{mark_after, IsCommit}
use Rattle.beam_model.specs.Sessions.{is_keyed}
use Rattle.beam_model.specs.Steps.{steps}

-- An element is of the key and window. A timer is the first that is set, by time and then name, and the mark into the node before the commit has reached it.
abbrev pub IsLegalInput : List CommitMarks → KeyLog → KeptState → ℕ → LogInput → Type 0
IsLegalInput commits log kept commit (Arrived e) = (is_keyed log.key e ≡ true) × (e.span ≡ log.span)
IsLegalInput commits log kept commit (Fired timer) =
    IsFirstTimer kept.timers timer × (timer.time ≤ℤ mark_after commits log.node (commit - 1))

-- The entries are legal one after another, from this state and no commit before this one, and leave that state: each input is legal, is no poison, and
-- has the outputs that the function gives.
abbrev pub Leads : List CommitMarks → StateKind → Args → KeyLog → KeptState → ℕ → List LogEntry → KeptState → Type 0
Leads commits kind args log kept commit [] end = kept ≡ end
Leads commits kind args log kept commit (entry ∷ later) end =
    (commit ≤ entry.commit) × IsLegalInput commits log kept entry.commit entry.input
    × ((after : KeptState)
    × (steps kind args log.key log.span entry.input kept ≡ Some (record { kept = after; outputs = entry.outputs }))
    × Leads commits kind args log after entry.commit later end)

-- a log of a node of this kind leads from the fresh state to this one
abbrev pub LeadsAt : List CommitMarks → NodeKind → KeyLog → KeptState → Type 0
LeadsAt commits (Stateful work args logged) log end = Leads commits work args log fresh_state 1 log.entries end
LeadsAt commits _ log end = ⊥

abbrev pub LeadsIn : List CommitMarks → Option Node → KeyLog → KeptState → Type 0
LeadsIn commits (Some node) log end = LeadsAt commits node.kind log end
LeadsIn commits None log end = ⊥

-- after the last entry no timer is set
abbrev pub IsLegalLog : Plan → List CommitMarks → KeyLog → Type 0
IsLegalLog plan commits log =
    (end : KeptState) × LeadsIn commits (slice_get plan.nodes log.node) log end × ((name : ℕ) → timer_of end.timers name ≡ None)

-- logs of one node, key and window
abbrev pub is_log_of : ℕ → Value → Interval → KeyLog → Bool
is_log_of node key span log = log.node == node && bytes_eq (spelling log.key) (spelling key) && same_span log.span span

-- there is one log for each node, key and window at most, and each is legal, its entries of commits from 1 to the last
pub record AreLogsLegal (plan : Plan) (commits : List CommitMarks) (logs : List KeyLog) : Type 0 where
  pub sized : All (λ commit. length commit.marks ≡ length plan.nodes) commits
  pub of_commits : All (λ log. All (λ entry. IsCommit (length commits - 1) entry.commit) log.entries) logs
  pub each : All (IsLegalLog plan commits) logs
  pub once : (node : ℕ) (key : Value) (span : Interval) → count_by (is_log_of node key span) logs ≤ 1
