-- Which key cell is worked next, and on what.
use Rattle.std.specs.Prelude.{◌≡◌, ◌⊎◌, ◌<◌, ◌≤◌, ℕ, zero, suc, ℤ, ◌+◌, min, Bool, true, false, ◌&&◌, ◌||◌, if◌then◌else◌, int_le, nat_lt, List, [], ◌∷◌, length, map, take, fold, slice_get, slice_set, Option, Some, None}
use Rattle.std.specs.List.{enumerate_from}
use Rattle.beam_values.specs.Marks.{marks_at}
use Rattle.beam_values.specs.declared.log.LogInput.{LogInput}
use Rattle.beam_values.specs.declared.log.LogInput.TheVariants.{Arrived, Fired}
use Rattle.beam_values.specs.declared.log.Timer.{Timer}
use Rattle.beam_values.specs.declared.marks.StageMarks.{StageMarks}
use Rattle.timer_core.specs.FirstTimers.{earlier}
use Rattle.stateful_core.specs.Cells.{KeyCell}
use Rattle.stateful_core.specs.declared.key_job.KeyTurn.{KeyTurn}
use Rattle.stateful_core.specs.declared.place.Place.{Place}
use Rattle.stateful_core.specs.declared.waiting.Waiting.{Waiting}

-- the timer that comes first, by time and then name
abbrev pub first_from : ℕ → Option Timer → List (Option ℤ) → Option Timer
first_from name first [] = first
first_from name first (time ∷ times) = first_from (name + 1) (earlier first name time) times

abbrev pub first_timer : List (Option ℤ) → Option Timer
first_timer timers = first_from 0 None timers

abbrev pub if_due : ℤ → Option Timer → Option Timer
if_due mark None = None
if_due mark (Some timer) = if int_le timer.time mark then Some timer else None

abbrev pub is_some : {X : Type 0} → Option X → Bool
is_some None = false
is_some (Some x) = true

abbrev pub is_free : KeyCell → Bool
is_free cell = elim cell.live [ None ↦ true | Some n ↦ false ]

abbrev pub has_waiting : List Waiting → Bool
has_waiting [] = false
has_waiting (waiting ∷ later) = true

-- a cell is free, and has an element that waits or a timer that is due
abbrev pub is_ready : List StageMarks → KeyCell → Bool
is_ready marks cell =
    is_free cell && (has_waiting cell.waiting || is_some (if_due (marks_at marks cell.log.node).mark_in (first_timer cell.kept.timers)))

abbrev pub sooner : Option Place → Place → Option Place
sooner None place = Some place
sooner (Some best) place = if nat_lt place.node best.node then Some place else Some best

abbrev pub or_sooner : List StageMarks → Option Place → (ℕ × KeyCell) → Option Place
or_sooner marks best (at, cell) = if is_ready marks cell then sooner best (record { at = at; node = cell.log.node }) else best

-- The ready cell of the lowest node, and of these that of the lowest number. With cells 0, 1 and 2 of the nodes 3, 2 and 2, all ready, it is cell 1.
abbrev pub next_place : List StageMarks → List KeyCell → Option Place
next_place marks cells = fold (or_sooner marks) None (enumerate_from 0 cells)

-- what that place is: a ready cell's, and no ready cell is of a lower node, or of the same with a lower number
pub record IsFirstReady (marks : List StageMarks) (cells : List KeyCell) (place : Place) : Type 0 where
  pub cell : KeyCell
  pub is_at : slice_get cells place.at ≡ Some cell
  pub ready : is_ready marks cell ≡ true
  pub node_is : place.node ≡ cell.log.node
  pub first : (at : ℕ) (other : KeyCell) → slice_get cells at ≡ Some other → is_ready marks other ≡ true
      → (place.node < other.log.node) ⊎ ((place.node ≡ other.log.node) × (place.at ≤ at))

-- a job of it has the first elements that wait, at most so many, or else its first timer
abbrev pub with_job : ℕ → KeyCell → KeyCell
with_job bundle cell = record cell { live = Some (min bundle (length cell.waiting)) }

abbrev pub timer_inputs : Option Timer → List LogInput
timer_inputs None = []
timer_inputs (Some timer) = Fired timer ∷ []

abbrev pub element_inputs : List Waiting → List LogInput
element_inputs waiting = map (λ w. Arrived w.element) waiting

abbrev pub inputs_of : KeyCell → ℕ → List LogInput
inputs_of cell zero = timer_inputs (first_timer cell.kept.timers)
inputs_of cell (suc n) = element_inputs (take (suc n) cell.waiting)

-- a job that is given back
abbrev pub tried : KeyCell → KeyCell
tried cell = record cell { live = None; attempts = cell.attempts + 1 }

-- one cell becomes what this makes of it
abbrev pub set_by : (KeyCell → KeyCell) → Option KeyCell → ℕ → List KeyCell → List KeyCell
set_by f None at cells = cells
set_by f (Some cell) at cells = slice_set cells at (f cell)

abbrev pub change : (KeyCell → KeyCell) → ℕ → List KeyCell → List KeyCell
change f at cells = set_by f (slice_get cells at) at cells

-- The job as it is handed out. In the run of `specs/Placing.antt`, with bundles of 2: cell 0 is ready, and its job has the elements at 1000 and 1200; the
-- third waits. While that job is worked no cell is ready. Once it is committed cell 0 is ready by its third element and cell 1 by its first; the node of cell
-- 0 is lower. At the end cell 1 has nothing that waits, and a timer set to 3500: it is ready once the mark into node 3 is 3500 or more, and its job has that
-- timer alone.
--
-- A function that gives the values of a window by two, and what is left at its end, has 3 at 1000, 1 at 2000 and 2 at 3000 of [0, 60000) waiting. One job has
-- all three in order; its calls give nothing, [1, 3] at 2000, and nothing, and leave the value 2 and a timer at 59999. The mark into the node is FINAL, so
-- the next job has that timer, and gives [2] at 59999.
abbrev pub turn_of : ℕ → KeyCell → ℕ → KeyTurn
turn_of at cell count = record {
  node = cell.log.node;
  cell = at;
  key = cell.log.key;
  span = cell.log.span;
  inputs = inputs_of cell count;
  state = cell.kept.cells;
  timers = cell.kept.timers;
  attempts = cell.attempts;
}

-- the next job is taken, or there is none
pub record IsTaken (marks : List StageMarks) (bundle : ℕ) (cells : List KeyCell) (turn : KeyTurn) (new : List KeyCell) : Type 0 where
  pub place : Place
  pub next : next_place marks cells ≡ Some place
  pub cell : KeyCell
  pub is_at : slice_get cells place.at ≡ Some cell
  pub handed : turn ≡ turn_of place.at cell (min bundle (length cell.waiting))
  pub is : new ≡ change (with_job bundle) place.at cells

abbrev pub IsTakenOrNone : List StageMarks → ℕ → List KeyCell → Option KeyTurn → List KeyCell → Type 0
IsTakenOrNone marks bundle cells None new = (next_place marks cells ≡ None) × (new ≡ cells)
IsTakenOrNone marks bundle cells (Some turn) new = IsTaken marks bundle cells turn new
