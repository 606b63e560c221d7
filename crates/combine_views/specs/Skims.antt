-- What is added of positions of a file.
use Rattle.std.specs.Prelude.{◌≡◌, ℕ, ◌+◌, ◌<◌, ◌≤◌, List, ◌++◌, length, map, Option}
use Rattle.beam_values.specs.Lines.{spread}
use Rattle.beam_values.specs.declared.arrival.Arrival.{Arrival}
use Rattle.beam_values.specs.declared.plan.Args.{Args}
use Rattle.beam_values.specs.declared.plan.Plan.{Plan}
use Rattle.beam_values.specs.declared.plan.SourceKind.{SourceKind}
use Rattle.beam_values.specs.declared.value.Value.{Value}
use Rattle.beam_model.specs.Chains.{Output, Arrives}
use Rattle.beam_model.specs.Positions.{emission, next_position}
use Rattle.beam_model.specs.Spread.{emission_outputs}
use Rattle.beam_ports.specs.Counts.{Rose}
use Rattle.beam_ports.specs.Files.{Opening}
use Rattle.chain_exec.specs.Sources.{IsText}
use Rattle.combine_lift.specs.Tables.{Added, StandsFor, Table}
use Rattle.combine_laws.specs.Brought.{added_by}
use Rattle.combine_views.specs.declared.skim.Skim.{Skim}
use Rattle.combine_views.specs.declared.skim.Skim.TheVariants.{To, FailedAt}

-- what a position of a source brings, where its item's text is this
abbrev pub outputs_of : Plan → ℕ → SourceKind → Args → List ℕ → ℕ → List Output
outputs_of plan source work args text p = emission_outputs plan source (emission work args text p)

-- One position was worked, and what it brings came to the table; where the item's text is known, that is what the model says, and `next` is the position
-- to go on from.
pub record HasWorkedAt {A : Type 0} (stands : A → List Value → Type 0) (plan : Plan) (source : ℕ) (work : SourceKind) (opening : Option Opening) (len p next : ℕ)
    (old new : Table A) : Type 0 where
  pub arrivals : List Arrival
  pub above : p < next
  pub all : (args : Args) (text : List ℕ) → IsText work opening len text
      → (map Arrives arrivals ≡ outputs_of plan source work args text p) × (next ≡ next_position work text p)
  pub parts : new.parts ≡ old.parts + length arrivals
  pub standing : (added : List Added) → StandsFor stands old added → StandsFor stands new (added ++ added_by arrivals)

-- Positions of `[from, to)` were worked, and what they bring came to the table, in order.
pub record HasSkimmed {A : Type 0} (stands : A → List Value → Type 0) (plan : Plan) (source : ℕ) (work : SourceKind) (opening : Option Opening) (len from to : ℕ)
    (old new : Table A) : Type 0 where
  pub arrivals : List Arrival
  pub all : (args : Args) (text : List ℕ) → IsText work opening len text → map Arrives arrivals ≡ spread (outputs_of plan source work args text) from to
  pub parts : new.parts ≡ old.parts + length arrivals
  pub standing : (added : List Added) → StandsFor stands old added → StandsFor stands new (added ++ added_by arrivals)

-- they were, up to an offset between these two
pub record HasSkimmedTo {A : Type 0} (stands : A → List Value → Type 0) (plan : Plan) (source : ℕ) (work : SourceKind) (opening : Option Opening) (len from to at : ℕ)
    (old new : Table A) : Type 0 where
  pub behind : from ≤ at
  pub within : at ≤ to
  pub skimmed : HasSkimmed stands plan source work opening len from at old new

-- how the work ended; a read that failed was counted
abbrev pub IsSkim : {A : Type 0} → (A → List Value → Type 0) → Plan → ℕ → SourceKind → Option Opening → ℕ → ℕ → ℕ → ℕ → ℕ → Table A → Table A → Skim → Type 0
IsSkim stands plan source work opening len from to before after old new (To at) = HasSkimmedTo stands plan source work opening len from to at old new
IsSkim stands plan source work opening len from to before after old new (FailedAt at) =
    HasSkimmedTo stands plan source work opening len from to at old new × Rose before after
