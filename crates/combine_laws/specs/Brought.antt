-- What comes to the Group of a plan, as parts of keys and windows.
use Rattle.std.specs.Prelude.{ℕ, ◌==◌, Bool, true, false, not, List, [], ◌∷◌, map}
use Rattle.beam_values.specs.Grouping.{key_of, part_of}
use Rattle.beam_values.specs.declared.arrival.Arrival.{Arrival}
use Rattle.beam_values.specs.declared.element.Element.{Element}
use Rattle.beam_values.specs.declared.plan.Plan.{Plan}
use Rattle.beam_values.specs.declared.value.Value.{Value}
use Rattle.beam_model.specs.Chains.{Output, Arrives, PoisonAt}
use Rattle.beam_model.specs.Flow.{elements_at}
use Rattle.beam_model.specs.Positions.{SourceItem}
use Rattle.beam_model.specs.Spread.{spread_all}
use Rattle.combine_lift.specs.Tables.{Added}

-- what an element brings to its key and window: `("a", 3)` of `[0, 60000)` brings the part 3 to the key "a" there
abbrev pub added_of : Element → Added
added_of e = record { key = key_of e; span = e.span; part = part_of e }

-- what arrivals bring, in order
abbrev pub added_by : List Arrival → List Added
added_by arrivals = map (λ arrival. added_of arrival.element) arrivals

-- outputs without those that are poison
abbrev pub arrivals_in : List Output → List Arrival
arrivals_in [] = []
arrivals_in (Arrives arrival ∷ outputs) = arrival ∷ arrivals_in outputs
arrivals_in (PoisonAt node ∷ outputs) = arrivals_in outputs

-- what all positions of all items bring to a node
abbrev pub brought_to : Plan → List SourceItem → ℕ → List Added
brought_to plan items node = map added_of (elements_at node (arrivals_in (spread_all plan items)))

-- an output arrives, with a part that isn't taken
abbrev pub is_untaken : (Value → Bool) → Output → Bool
is_untaken takes (Arrives arrival) = not (takes (part_of arrival.element))
is_untaken takes (PoisonAt node) = false

abbrev pub is_arrival : Output → Bool
is_arrival (Arrives arrival) = true
is_arrival (PoisonAt node) = false

-- an output arrives at this node, or is poison
abbrev pub is_brought : ℕ → Output → Bool
is_brought node (Arrives arrival) = arrival.node == node
is_brought node (PoisonAt at) = true
