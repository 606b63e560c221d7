-- What calls of functions, sources and stateful functions give (Beam Programming Guide, ParDo, State and Timers; Splittable DoFn).
use Rattle.std.specs.Prelude.{◌≡◌, ℕ, ℤ, ◌+◌, ◌-◌, ◌<◌, ◌≤◌, Bool, true, false, ◌&&◌, nat_lt, not, List, [], ◌++◌, length, map, take, drop, Option, Some, None}
use Rattle.std.specs.List.{list_any}
use Rattle.beam_values.specs.Checked.{reads_file}
use Rattle.beam_values.specs.Intervals.{Interval}
use Rattle.beam_values.specs.Lines.{is_line_feed}
use Rattle.beam_values.specs.States.{KeptState}
use Rattle.beam_values.specs.declared.element.Element.{Element}
use Rattle.beam_values.specs.declared.log.LogInput.{LogInput}
use Rattle.beam_values.specs.declared.plan.Args.{Args}
use Rattle.beam_values.specs.declared.plan.FnKind.{FnKind}
use Rattle.beam_values.specs.declared.plan.SourceKind.{SourceKind}
use Rattle.beam_values.specs.declared.plan.StateKind.{StateKind}
use Rattle.beam_values.specs.declared.state_cell.StateCell.{StateCell}
use Rattle.beam_values.specs.declared.value.Value.{Value}
use Rattle.beam_model.specs.Functions.{emits}
use Rattle.beam_model.specs.Positions as model
use Rattle.beam_model.specs.Positions.{positions_in, emission, next_position}
use Rattle.beam_model.specs.Steps.{Stepped, steps}
use Rattle.dofn_traits.specs.declared.calls.Emission.{Emission}
use Rattle.dofn_traits.specs.declared.calls.Found.{Found}
use Rattle.dofn_traits.specs.declared.calls.Found.TheVariants.{Here, More}
use Rattle.dofn_traits.specs.declared.calls.Timed.{Timed}

-- the outputs of the function were added, so the element is no poison for it
abbrev pub AddsOutputs : FnKind → Args → Element → List Element → List Element → Type 0
AddsOutputs kind args e old new = (outputs : List Element) × (emits kind args e ≡ Some outputs) × (new ≡ old ++ outputs)

-- What is seen of an item of this length for one of its positions: bytes that begin at `base` and end at or before its end. Of a file they reach from
-- before the position, where there is a byte before it, up to it or past it; what is counted or made has as many positions as its arguments say.
pub record IsView (kind : SourceKind) (args : Args) (bytes : List ℕ) (base len p : ℕ) : Type 0 where
  pub inside : p < len
  pub within : base + length bytes ≤ len
  pub from_base : reads_file kind ≡ true → base ≤ p
  pub from_before : reads_file kind ≡ true → 0 < p → base < p
  pub reached : reads_file kind ≡ true → p ≤ base + length bytes
  pub counted : reads_file kind ≡ false → positions_in kind args [] ≡ len

-- they are the bytes of this file, and the item has that many positions
pub record IsViewOf (file : List ℕ) (kind : SourceKind) (args : Args) (bytes : List ℕ) (base len : ℕ) : Type 0 where
  pub positions : positions_in kind args file ≡ len
  pub shown : bytes ≡ take (length bytes) (drop base file)

-- A line that starts at the position may go on past these bytes: they have no LF from there on, and end before the file does.
abbrev pub is_cut_short : SourceKind → List ℕ → ℕ → ℕ → ℕ → Bool
is_cut_short kind bytes base len p =
    reads_file kind && nat_lt (base + length bytes) len && not (list_any is_line_feed (drop (p - base) bytes))

abbrev pub timed_value : Timed → model.TimedValue
timed_value timed = record { value = timed.value; time = timed.time }

-- a mark that a position declares takes the place of one before; so what is handed in is best empty
abbrev pub declared_after : Option ℤ → Option ℤ → Option ℤ
declared_after old None = old
declared_after old (Some mark) = Some mark

-- what a position emits was added, so it is no poison
abbrev pub AddsEmission : model.Emission → Emission → Emission → Type 0
AddsEmission (model.Emits values declared) old new =
    (map timed_value new.items ≡ map timed_value old.items ++ values) × (new.declared ≡ declared_after old.declared declared)
AddsEmission model.Poison old new = ⊥

-- what a call at a position found: the position after it, and its emission was added; or more bytes are wanted, and nothing was
abbrev pub IsFound : SourceKind → Args → List ℕ → ℕ → Emission → Emission → Found → Type 0
IsFound kind args file p old new (Here next) = (next ≡ next_position kind file p) × AddsEmission (emission kind args file p) old new
IsFound kind args file p old new More = new ≡ old

-- the position after this one lies above it, and at most at the end
abbrev pub IsNextWithin : ℕ → ℕ → Found → Type 0
IsNextWithin p len (Here next) = (p < next) × (next ≤ len)
IsNextWithin p len More = Unit {0}

-- the state of a key: its cells and the times that its timers are set to
abbrev pub kept_in : List StateCell → List (Option ℤ) → KeptState
kept_in cells timers = record { cells = cells; timers = timers }

-- the call of a stateful function left this state, and its outputs were added
pub record IsStepped (after : Stepped) (cells : List StateCell) (timers : List (Option ℤ)) (old new : List Element) : Type 0 where
  pub keeps : cells ≡ after.kept.cells
  pub sets : timers ≡ after.kept.timers
  pub outputs : new ≡ old ++ after.outputs

abbrev pub AddsStep : StateKind → Args → Value → Interval → LogInput → KeptState → List StateCell → List (Option ℤ) → List Element → List Element → Type 0
AddsStep kind args key span input kept cells timers old new =
    (after : Stepped) × (steps kind args key span input kept ≡ Some after) × IsStepped after cells timers old new

-- what a call does to the count of faults of a strict object where its input is no poison
pub record IsUnharmed (failed : Type 0) (before after : ℕ) : Type 0 where
  pub answered : failed → ⊥
  pub uncounted : after ≡ before
