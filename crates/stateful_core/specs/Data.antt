-- Key cells as plain data, and the cells that data stands for.
--
-- At a node 3 whose function gives the latest value, the cell of "x" in `[0, 5000)` has state cell 0 set to "b", timer 0 to 4999, which holds the node at 4999,
-- and two calls in its log. Its data has eight state cells, the one timer and the two entries, and that cell is what it stands for.
use Rattle.std.specs.Prelude.{◌≡◌, ℕ, suc, ℤ, ◌<◌, ◌≤◌, ◌==◌, Bool, List, [], ◌∷◌, length, map, fold, replicate, slice_set, count_by, Option, Some, None}
use Rattle.std.specs.List.{All}
use Rattle.stateful_core.specs.Cells.{KeyCell}
use Rattle.stateful_core.specs.declared.data.KeyData.{KeyData}
use Rattle.stateful_core.specs.declared.data.SetTimer.{SetTimer}

-- ---- a cell as data

-- the timers that are set, of these times and holds, by name from this one on
abbrev pub timers_from : ℕ → List (Option ℤ) → List (Option ℤ) → List SetTimer
timers_from name (Some time ∷ times) (Some hold ∷ holds) =
    record { timer = record { name = name; time = time }; hold = hold } ∷ timers_from (suc name) times holds
timers_from name (_ ∷ times) (_ ∷ holds) = timers_from (suc name) times holds
timers_from name _ _ = []

abbrev pub key_data_of : KeyCell → KeyData
key_data_of cell = record {
  node = cell.log.node;
  key = cell.log.key;
  span = cell.log.span;
  state = cell.kept.cells;
  timers = timers_from 0 cell.kept.timers cell.timer_holds;
  waiting = cell.waiting;
  attempts = cell.attempts;
  log = cell.log.entries;
}

-- ---- data as a cell

-- of eight timers none is set, and then each of these in turn
abbrev pub times_of : List SetTimer → List (Option ℤ)
times_of timers = fold (λ times set. slice_set times set.timer.name (Some set.timer.time)) (replicate 8 None) timers

abbrev pub timer_holds_of : List SetTimer → List (Option ℤ)
timer_holds_of timers = fold (λ holds set. slice_set holds set.timer.name (Some set.hold)) (replicate 8 None) timers

-- no job of it is worked
abbrev pub cell_of_data : KeyData → KeyCell
cell_of_data d = record {
  log = record { node = d.node; key = d.key; span = d.span; entries = d.log };
  kept = record { cells = d.state; timers = times_of d.timers };
  timer_holds = timer_holds_of d.timers;
  waiting = d.waiting;
  live = None;
  attempts = d.attempts;
}

abbrev pub cells_of_data : List KeyData → List KeyCell
cells_of_data keys = map cell_of_data keys

-- ---- data that stands for a cell

abbrev pub is_timer : ℕ → SetTimer → Bool
is_timer name set = set.timer.name == name

-- It has eight state cells, and its timers have distinct names below 8. Timers 0 and 3 may be set, and neither 0 twice nor 8.
pub record IsKeyFormed (d : KeyData) : Type 0 where
  pub states : length d.state ≡ 8
  pub named : All (λ set. set.timer.name < 8) d.timers
  pub once : (name : ℕ) → count_by (is_timer name) d.timers ≤ 1

abbrev pub AreKeysFormed : List KeyData → Type 0
AreKeysFormed keys = All IsKeyFormed keys
