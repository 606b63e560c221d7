-- The functions with state and timers (Beam Programming Guide, State and Timers): what a call on an element or a timer leaves and gives.
use Rattle.std.specs.Prelude.{ℕ, ℤ, pos, ◌+ℤ◌, Bool, true, ◌==◌, if◌then◌else◌, int_le, List, [], ◌∷◌, ◌++◌, length, map, slice_set, bytes_eq, Option, Some, None, unwrap_or}
use Rattle.std.specs.List.{list_any}
use Rattle.std.specs.Option.{option_map, option_and_then}
use Rattle.beam_values.specs.Grouping.{part_of, last_time}
use Rattle.beam_values.specs.Intervals.{Interval}
use Rattle.beam_values.specs.Spelling.{spelling}
use Rattle.beam_values.specs.States.{KeptState, cell_of, number_in, values_in}
use Rattle.beam_values.specs.Windows.{or_zero}
use Rattle.beam_values.specs.declared.value.Value.{Value}
use Rattle.beam_values.specs.declared.element.Element.{Element}
use Rattle.beam_values.specs.declared.element.Timing.TheVariants.{Unknown}
use Rattle.beam_values.specs.declared.log.LogInput.{LogInput}
use Rattle.beam_values.specs.declared.log.LogInput.TheVariants.{Arrived, Fired}
use Rattle.beam_values.specs.declared.plan.Args.{Args}
use Rattle.beam_values.specs.declared.plan.StateKind.{StateKind}
use Rattle.beam_values.specs.declared.plan.StateKind.TheVariants.{Dedupe, RunningSum, BatchUntil, LatestThenEmit}
use Rattle.beam_values.specs.declared.state_cell.StateCell.{StateCell}
use Rattle.beam_values.specs.declared.state_cell.StateCell.TheVariants.{Unset, Number, Bag}
use Rattle.beam_model.specs.Values.{int, pair, seq, as_int}
use Rattle.beam_model.specs.Functions.{number_arg, later_by, in_word, valued, ascending}

-- what a call leaves, and what it gives, in order
pub record Stepped : Type 0 where
  pub kept : KeptState
  pub outputs : List Element

abbrev pub bag : KeptState → List Value
bag kept = values_in (cell_of kept.cells 0)

abbrev pub with_cell : ℕ → StateCell → KeptState → KeptState
with_cell name cell kept = record kept { cells = slice_set kept.cells name cell }

abbrev pub with_timer : ℕ → Option ℤ → KeptState → KeptState
with_timer name time kept = record kept { timers = slice_set kept.timers name time }

abbrev pub stepped : KeptState → List Element → Stepped
stepped kept outputs = record { kept = kept; outputs = outputs }

-- what a timer gives has its time, and the tag UNKNOWN
abbrev pub timer_output : Interval → ℤ → Value → Element
timer_output span time v = record { value = v; time = time; span = span; pane = record { timing = Unknown; index = 0 } }

-- values are equal where their spellings are
abbrev pub holds_value : List Value → Value → Bool
holds_value values v = list_any (λ held. bytes_eq (spelling held) (spelling v)) values

-- Dedupe: a value comes through once
abbrev pub dedupe : Value → Element → KeptState → Stepped
dedupe key e kept =
    if holds_value (bag kept) (part_of e) then stepped kept []
    else stepped (with_cell 0 (Bag (bag kept ++ part_of e ∷ [])) kept) (valued e (pair key (part_of e)) ∷ [])

-- RunningSum: the sum of the numbers so far; poison where 64 bits don't hold it
abbrev pub sum_so_far : KeptState → ℤ → ℤ
sum_so_far kept n = unwrap_or (number_in (cell_of kept.cells 0)) (pos 0) +ℤ n

abbrev pub running_sum : Value → Element → KeptState → Option Stepped
running_sum key e kept =
    option_map (λ sum. stepped (with_cell 0 (Number sum) kept) (valued e (pair key (int sum)) ∷ []))
    (option_and_then (λ n. in_word (sum_so_far kept n)) (as_int (part_of e)))

-- BatchUntil: the values in batches of so many, and what is left at the end of the window
abbrev pub collected : Element → KeptState → KeptState
collected e kept = with_timer 0 (Some (last_time e.span)) (with_cell 0 (Bag (bag kept ++ part_of e ∷ [])) kept)

abbrev pub emptied : KeptState → KeptState
emptied kept = with_timer 0 None (with_cell 0 Unset kept)

abbrev pub batch_until : ℕ → Value → Element → KeptState → Stepped
batch_until most key e kept =
    if length (bag (collected e kept)) == most
    then stepped (emptied (collected e kept)) (valued e (pair key (seq (ascending (bag (collected e kept))))) ∷ [])
    else stepped (collected e kept) []

abbrev pub last_batch : Value → Interval → ℤ → List Value → List Element
last_batch key span time [] = []
last_batch key span time (v ∷ vs) = timer_output span time (pair key (seq (ascending (v ∷ vs)))) ∷ []

abbrev pub cleared_bag : KeptState → List Value → KeptState
cleared_bag kept [] = with_timer 0 None kept
cleared_bag kept (v ∷ vs) = emptied kept

-- LatestThenEmit: the value with the greatest time, so long after that time
abbrev pub is_at_least : ℤ → Option ℤ → Bool
is_at_least time None = true
is_at_least time (Some latest) = int_le latest time

abbrev pub is_latest : KeptState → ℤ → Bool
is_latest kept time = is_at_least time (number_in (cell_of kept.cells 1))

abbrev pub with_latest : Element → KeptState → KeptState
with_latest e kept =
    if is_latest kept e.time then with_cell 1 (Number e.time) (with_cell 0 (Bag (part_of e ∷ [])) kept) else kept

abbrev pub latest_then_emit : ℤ → Element → KeptState → Stepped
latest_then_emit delay e kept =
    let now = with_latest e kept in
    stepped (with_timer 0 (Some (later_by delay (unwrap_or (number_in (cell_of now.cells 1)) e.time))) now) []

abbrev pub on_element : StateKind → Args → Value → Element → KeptState → Option Stepped
on_element Dedupe args key e kept = Some (dedupe key e kept)
on_element RunningSum args key e kept = running_sum key e kept
on_element BatchUntil args key e kept = Some (batch_until (or_zero (number_arg args)) key e kept)
on_element LatestThenEmit args key e kept = Some (latest_then_emit (number_arg args) e kept)

-- a call on timer 0
abbrev pub on_first_timer : StateKind → Value → Interval → ℤ → KeptState → Stepped
on_first_timer Dedupe key span time kept = stepped kept []
on_first_timer RunningSum key span time kept = stepped kept []
on_first_timer BatchUntil key span time kept = stepped (cleared_bag kept (bag kept)) (last_batch key span time (bag kept))
on_first_timer LatestThenEmit key span time kept =
    stepped (with_cell 1 Unset (emptied kept)) (map (λ v. timer_output span time (pair key v)) (bag kept))

-- what a call leaves and gives; None where the element is poison. A timer of another name than 0 does nothing.
abbrev pub steps : StateKind → Args → Value → Interval → LogInput → KeptState → Option Stepped
steps kind args key span (Arrived e) kept = on_element kind args key e kept
steps kind args key span (Fired timer) kept =
    if timer.name == 0 then Some (on_first_timer kind key span timer.time kept) else Some (stepped kept [])
