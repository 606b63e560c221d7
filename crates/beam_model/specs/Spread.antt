-- Spreads: what ranges of source items bring to the barriers.
use Rattle.std.specs.Prelude.{◌≡◌, ℕ, ◌==◌, Bool, true, false, if◌then◌else◌, List, [], ◌∷◌, Option, Some, None}
use Rattle.std.specs.List.{flat_map, list_any}
use Rattle.beam_values.specs.Lines.{spread}
use Rattle.beam_values.specs.Windows.{global_window}
use Rattle.beam_values.specs.declared.element.Element.{Element}
use Rattle.beam_values.specs.declared.element.Timing.TheVariants.{Unknown}
use Rattle.beam_values.specs.declared.plan.Plan.{Plan}
use Rattle.beam_model.specs.Positions.{TimedValue, Emission, Emits, Poison, SourceItem, emission, len_of}
use Rattle.beam_model.specs.Chains.{Output, Arrives, PoisonAt, chain}

-- an element as it comes from a source: in the global window, with the tag UNKNOWN
abbrev pub from_source : TimedValue → Element
from_source v = record { value = v.value; time = v.time; span = global_window; pane = record { timing = Unknown; index = 0 } }

-- what an emission of the source of this number brings
abbrev pub emission_outputs : Plan → ℕ → Emission → List Output
emission_outputs plan node (Emits values declared) = flat_map (λ v. chain plan node (from_source v)) values
emission_outputs plan node Poison = PoisonAt node ∷ []

abbrev pub is_left_out : SourceItem → ℕ → Bool
is_left_out item p = list_any (λ q. q == p) item.left_out

-- what a position of an item brings
abbrev pub outputs_at : Plan → SourceItem → ℕ → List Output
outputs_at plan item p = if is_left_out item p then [] else emission_outputs plan item.node (emission item.work item.args item.file p)

-- what the positions of `[from, to)` bring, in order
abbrev pub spread_range : Plan → SourceItem → ℕ → ℕ → List Output
spread_range plan item from to = spread (outputs_at plan item) from to

-- what all positions of all items bring
abbrev pub spread_all : Plan → List SourceItem → List Output
spread_all plan items = flat_map (λ item. spread_range plan item 0 (len_of item)) items

abbrev pub is_poison : Output → Bool
is_poison (Arrives arrival) = false
is_poison (PoisonAt node) = true

abbrev pub HasPoison : Plan → List SourceItem → Type 0
HasPoison plan items = list_any is_poison (spread_all plan items) ≡ true

-- the node of the first poison of some outputs
abbrev pub first_poison : List Output → Option ℕ
first_poison [] = None
first_poison (Arrives arrival ∷ outputs) = first_poison outputs
first_poison (PoisonAt node ∷ outputs) = Some node
