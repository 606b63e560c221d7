-- A shelf of boxes: which of them it uses, and what their counts and strictness amount to.
use Rattle.std.specs.Prelude.{◌≡◌, ◌≢◌, ℕ, ◌+◌, ◌<◌, min, Bool, true, ◌&&◌, ◌==◌, List, length, find, position, unwrap_or, slice_index_or, Some}
use Rattle.std.specs.List.{All, Any, list_all, sum_by}
use Rattle.std.specs.Option.{option_map}
use denote.Enum.Declared.{tag_of}
use Rattle.beam_ports.specs.Counts.{greatest_count}
use Rattle.beam_values.specs.contracts.plan.FnKind as FnKindType
use Rattle.beam_values.specs.contracts.plan.SourceKind as SourceKindType
use Rattle.beam_values.specs.contracts.plan.StateKind as StateKindType
use Rattle.beam_values.specs.declared.plan.FnKind.{FnKind}
use Rattle.beam_values.specs.declared.plan.SourceKind.{SourceKind}
use Rattle.beam_values.specs.declared.plan.StateKind.{StateKind}
use Rattle.dofn_traits.specs.declared.kinds.TheConstants.{FN_KINDS, SOURCE_KINDS, STATE_KINDS}

-- the boxes of functions, of sources and of functions with state
pub record Boxes (D S T : Type 0) : Type 0 where
  pub fns : List D
  pub splits : List S
  pub states : List T

-- all kinds in the order in which they are declared, and the number of each, from 0
abbrev pub fn_kinds : List FnKind
fn_kinds = FN_KINDS.now

abbrev pub fn_number : FnKind → ℕ
fn_number kind = tag_of FnKindType.the_type kind

abbrev pub source_kinds : List SourceKind
source_kinds = SOURCE_KINDS.now

abbrev pub source_number : SourceKind → ℕ
source_number kind = tag_of SourceKindType.the_type kind

abbrev pub state_kinds : List StateKind
state_kinds = STATE_KINDS.now

abbrev pub state_number : StateKind → ℕ
state_number kind = tag_of StateKindType.the_type kind

-- each kind has a box, or one has none
abbrev pub HasEach : {K X : Type 0} → (X → K) → List X → Type 0
HasEach {K} work boxes = (kind : K) → Any (λ box. work box ≡ kind) boxes

abbrev pub LacksOne : {K X : Type 0} → (X → K) → List X → Type 0
LacksOne {K} work boxes = (kind : K) × All (λ box. work box ≢ kind) boxes

-- the boxes by their numbers are found at these places, the first of each
pub record IsPlaced {X : Type 0} (number : X → ℕ) (count : ℕ) (boxes : List X) (places : List ℕ) : Type 0 where
  pub size : length places ≡ count
  pub placed : (n : ℕ) → n < count → position (λ box. number box == n) boxes ≡ Some (slice_index_or places n 0)

-- the first box of a number is strict
abbrev pub is_first_strict : {X : Type 0} → (X → ℕ) → (X → Bool) → List X → ℕ → Bool
is_first_strict number strict boxes n = unwrap_or (option_map strict (find (λ box. number box == n) boxes)) true

abbrev pub are_used_strict : {K X : Type 0} → (K → ℕ) → List K → (X → K) → (X → Bool) → List X → Bool
are_used_strict number kinds work strict boxes = list_all (λ kind. is_first_strict (λ box. number (work box)) strict boxes (number kind)) kinds

-- all boxes that a shelf uses are strict
abbrev pub is_shelf_strict : {D S T : Type 0} → (D → FnKind) → (D → Bool) → (S → SourceKind) → (S → Bool) → (T → StateKind) → (T → Bool) → Boxes D S T → Bool
is_shelf_strict fn_work fn_strict split_work split_strict state_work state_strict boxes =
    are_used_strict fn_number fn_kinds fn_work fn_strict boxes.fns
    && are_used_strict source_number source_kinds split_work split_strict boxes.splits
    && are_used_strict state_number state_kinds state_work state_strict boxes.states

-- the sum of the counts of its boxes, up to the greatest number of 64 bits
abbrev pub shelf_faults : {D S T : Type 0} → (D → ℕ) → (S → ℕ) → (T → ℕ) → Boxes D S T → ℕ
shelf_faults fn_faults split_faults state_faults boxes =
    min (sum_by fn_faults boxes.fns + sum_by split_faults boxes.splits + sum_by state_faults boxes.states) greatest_count
