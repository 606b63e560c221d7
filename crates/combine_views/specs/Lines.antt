-- What a line brings to the Group, and what is added of it.
use Rattle.std.specs.Prelude.{◌≡◌, ℕ, ◌+◌, ◌-◌, ◌<◌, if◌then◌else◌, List, [], ◌++◌, length, map, take}
use Rattle.beam_values.specs.Functions.{timed_line}
use Rattle.beam_values.specs.Lines.{line_at, starts_line}
use Rattle.beam_values.specs.Times.{least_time}
use Rattle.beam_values.specs.declared.arrival.Arrival.{Arrival}
use Rattle.beam_values.specs.declared.element.Element.{Element}
use Rattle.beam_values.specs.declared.plan.Plan.{Plan}
use Rattle.beam_values.specs.declared.plan.SourceKind.{SourceKind}
use Rattle.beam_values.specs.declared.plan.SourceKind.TheVariants.{Lines, TimedLines}
use Rattle.beam_values.specs.declared.value.Value.{Value}
use Rattle.beam_model.specs.Chains.{Output, Arrives}
use Rattle.beam_model.specs.Positions.{Emission, emits_one, line_emission, nothing}
use Rattle.beam_model.specs.Spread.{emission_outputs}
use Rattle.beam_model.specs.Values.{blob}
use Rattle.combine_lift.specs.Tables.{Added, StandsFor, Table}
use Rattle.combine_laws.specs.Brought.{added_by, added_of}

-- the outputs are these elements, in this order, each of which arrives at some barrier
pub record AreAtBarrier (outputs : List Output) (elements : List Element) : Type 0 where
  pub arrivals : List Arrival
  pub all : map Arrives arrivals ≡ outputs
  pub are : map (λ arrival. arrival.element) arrivals ≡ elements

-- what a source emits where this line starts; of what is counted or made there are no lines
abbrev pub emission_of_line : SourceKind → List ℕ → Emission
emission_of_line Lines line = emits_one (blob line) least_time
emission_of_line TimedLines line = line_emission (timed_line line)
emission_of_line _ line = nothing

-- What a position of such a source brings, as the bytes from `base` on show it. By hand: of `0 a 3 LF 1 b 4`, where fields are keys and numbers, position 6
-- brings 4 to "b", and position 7 nothing.
abbrev pub outputs_seen : Plan → ℕ → SourceKind → List ℕ → ℕ → ℕ → List Output
outputs_seen plan source work bytes base p =
    if starts_line bytes (p - base) then emission_outputs plan source (emission_of_line work (line_at bytes (p - base))) else []

-- All outputs arrive, and came to the table in this order. Of `0 a 3`, where fields are keys and numbers, that is 3 to "a".
pub record HasAdded {A : Type 0} (stands : A → List Value → Type 0) (outputs : List Output) (old new : Table A) : Type 0 where
  pub arrivals : List Arrival
  pub all : map Arrives arrivals ≡ outputs
  pub parts : new.parts ≡ old.parts + length arrivals
  pub standing : (added : List Added) → StandsFor stands old added → StandsFor stands new (added ++ added_by arrivals)

-- The parts of these elements came to the table, in this order.
pub record HasTaken {A : Type 0} (stands : A → List Value → Type 0) (elements : List Element) (old new : Table A) : Type 0 where
  pub parts : new.parts ≡ old.parts + length elements
  pub standing : (added : List Added) → StandsFor stands old added → StandsFor stands new (added ++ map added_of elements)

-- the first ones of these came, maybe none, and not all
pub record HasTakenSome {A : Type 0} (stands : A → List Value → Type 0) (elements : List Element) (old new : Table A) : Type 0 where
  pub count : ℕ
  pub less : count < length elements
  pub first : HasTaken stands (take count elements) old new

-- The first outputs came, maybe none, and not all: of a line that brings one element, none.
pub record HasAddedSome {A : Type 0} (stands : A → List Value → Type 0) (outputs : List Output) (old new : Table A) : Type 0 where
  pub count : ℕ
  pub less : count < length outputs
  pub first : HasAdded stands (take count outputs) old new

-- those came that stand before these last ones
pub record HasTakenUpTo {A : Type 0} (stands : A → List Value → Type 0) (elements rest : List Element) (old new : Table A) : Type 0 where
  pub front : List Element
  pub all : front ++ rest ≡ elements
  pub taken : HasTaken stands front old new
