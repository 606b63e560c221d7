-- What a commit does to key cells: the job of one is done, and what arrives at Stateful nodes waits.
use Rattle.std.specs.Prelude.{ℕ, ℤ, if◌then◌else◌, List, [], ◌∷◌, ◌++◌, fold, map, drop, replicate, slice_get, slice_set, unwrap_or, Option, Some, None}
use Rattle.std.specs.Option.{option_map}
use Rattle.beam_values.specs.Grouping.{key_of}
use Rattle.beam_values.specs.Marks.{marks_at}
use Rattle.beam_values.specs.Nodes.{is_stateful}
use Rattle.beam_values.specs.States.{KeptState, fresh_state, timer_of}
use Rattle.beam_values.specs.declared.arrival.Arrival.{Arrival}
use Rattle.beam_values.specs.declared.log.LogEntry.{LogEntry}
use Rattle.beam_values.specs.declared.marks.StageMarks.{StageMarks}
use Rattle.beam_values.specs.declared.plan.Plan.{Plan}
use Rattle.beam_model.specs.Holds.{HeldTimer, arrival_hold, timer_after}
use Rattle.stateful_core.specs.Cells.{KeyCell, belongs}
use Rattle.stateful_core.specs.declared.waiting.Waiting.{Waiting}

-- ---- what arrives

abbrev pub waits : List StageMarks → Arrival → Waiting
waits before arrival = record { element = arrival.element; hold = (arrival_hold before arrival).mark }

-- a key and window that nothing came to yet
abbrev pub fresh_cell : Arrival → KeyCell
fresh_cell arrival = record {
  log = record { node = arrival.node; key = key_of arrival.element; span = arrival.element.span; entries = [] };
  kept = fresh_state;
  timer_holds = replicate 8 None;
  waiting = [];
  live = None;
  attempts = 0;
}

abbrev pub with_waiting : KeyCell → Waiting → KeyCell
with_waiting cell waiting = record cell { waiting = cell.waiting ++ waiting ∷ [] }

-- an arrival waits at its cell, or at a new one behind the others
abbrev pub place_in : List StageMarks → Arrival → List KeyCell → List KeyCell
place_in before arrival [] = with_waiting (fresh_cell arrival) (waits before arrival) ∷ []
place_in before arrival (cell ∷ cells) =
    if belongs arrival cell then with_waiting cell (waits before arrival) ∷ cells else cell ∷ place_in before arrival cells

abbrev pub place_one : Plan → List StageMarks → List KeyCell → Arrival → List KeyCell
place_one plan before cells arrival = if is_stateful plan arrival.node then place_in before arrival cells else cells

-- each in turn; arrivals at other nodes are left out
abbrev pub place_all : Plan → List StageMarks → List Arrival → List KeyCell → List KeyCell
place_all plan before arrivals cells = fold (place_one plan before) cells arrivals

-- ---- what was worked

-- a timer that is set, with the mark at which it holds its node back
abbrev pub held_timer : Option ℤ → Option ℤ → Option HeldTimer
held_timer None hold = None
held_timer (Some time) None = None
held_timer (Some time) (Some hold) = Some (record { time = time; hold = hold })

-- the hold of a timer, from its hold and time before and its time after; `mark` is the mark after its node before the commit
abbrev pub timer_hold_after : ℤ → Option ℤ → Option ℤ → Option ℤ → Option ℤ
timer_hold_after mark hold old new = option_map (λ timer. timer.hold) (timer_after mark (held_timer old hold) new)

abbrev pub timer_names : List ℕ
timer_names = 0 ∷ 1 ∷ 2 ∷ 3 ∷ 4 ∷ 5 ∷ 6 ∷ 7 ∷ []

-- from the holds before, and the timers before and after
abbrev pub timer_holds_after : ℤ → List (Option ℤ) → List (Option ℤ) → List (Option ℤ) → List (Option ℤ)
timer_holds_after mark holds olds news =
    map (λ name. timer_hold_after mark (timer_of holds name) (timer_of olds name) (timer_of news name)) timer_names

-- what a job leaves, its cell by number
pub record Done : Type 0 where
  pub cell : ℕ
  pub kept : KeptState
  pub entries : List LogEntry

abbrev pub with_done : List StageMarks → Done → KeyCell → KeyCell
with_done before done cell = record {
  log = record cell.log { entries = cell.log.entries ++ done.entries };
  kept = done.kept;
  timer_holds = timer_holds_after (marks_at before cell.log.node).mark_out cell.timer_holds cell.kept.timers done.kept.timers;
  waiting = drop (unwrap_or cell.live 0) cell.waiting;
  live = None;
  attempts = 0;
}

abbrev pub set_done : List StageMarks → Done → Option KeyCell → List KeyCell → List KeyCell
set_done before done None cells = cells
set_done before done (Some cell) cells = slice_set cells done.cell (with_done before done cell)

abbrev pub finish : List StageMarks → Option Done → List KeyCell → List KeyCell
finish before None cells = cells
finish before (Some done) cells = set_done before done (slice_get cells done.cell) cells

-- The whole of a commit: the job of a cell is done, and then each arrival waits. `before` are the marks before the commit.
--
-- Of nodes 0 to 4, a source, a function, one that takes each value once, one that gives the latest value 500 after its time, and a Write, the source reads
-- ("a", "x") at 1000 and at 1200 and ("a", "y") at 3000, of the global window, in one commit. The marks after the nodes are LEAST_TIME. No cell stands, so
-- cell 0 is opened at node 2; the three wait there in this order, with the holds 1000, 1200 and 3000. The mark after node 2 is 1000 then. A job of all three
-- leaves two outputs, at 1000 and 3000. Its commit lets the three go, so nothing holds node 2, and opens cell 1 at node 3 with the holds 1000 and 3000. The
-- job of these two sets timer 0 to 1500 and then to 3500: at its commit the mark after node 3 is 1000, so the timer holds the node at 3500.
abbrev pub place : Plan → List StageMarks → Option Done → List Arrival → List KeyCell → List KeyCell
place plan before done arrivals cells = place_all plan before arrivals (finish before done cells)
