-- What was combined goes on from the function.
use Rattle.std.specs.Prelude.{◌≡◌, ℕ, List, map, Option, Some}
use Rattle.std.specs.List.{All, flat_map}
use Rattle.std.specs.Option.{option_map}
use Rattle.beam_values.specs.Grouping.{last_time, pane_with}
use Rattle.beam_values.specs.Storable.{IsStorable}
use Rattle.beam_values.specs.declared.arrival.Arrival.{Arrival}
use Rattle.beam_values.specs.declared.element.Element.{Element}
use Rattle.beam_values.specs.declared.element.Timing.TheVariants.{OnTime}
use Rattle.beam_values.specs.declared.plan.Plan.{Plan}
use Rattle.beam_values.specs.declared.value.Value.{Value}
use Rattle.beam_model.specs.Chains.{Output, Arrives, chain}
use Rattle.beam_model.specs.Functions.{ascending}
use Rattle.beam_model.specs.Values.{pair}
use Rattle.combine_lift.specs.Tables.{Added, parts_of}
use Rattle.combine_lift.specs.declared.combined.Combined.{Combined}

-- the combined element of a key and window with this value: what the function makes of the pane, on time at the end of the window
abbrev pub element_of : Combined → Value → Element
element_of row value = record { value = pair row.key value; time = last_time row.span; span = row.span; pane = record { timing = OnTime; index = 0 } }

abbrev pub combined_element : Combined → Option Element
combined_element row = option_map (element_of row) row.value

-- the pane of a key and window, on time, with the parts that were added to it in ascending order
abbrev pub pane_of : List Added → Combined → Element
pane_of added row = pane_with row.key row.span (ascending (parts_of row.key row.span added))

-- what elements bring from the function, one after another
abbrev pub chains_of : Plan → ℕ → List Element → List Output
chains_of plan function elements = flat_map (chain plan function) elements

-- Every row has a value, and what all of them bring from the function arrived. Their values have numbers of 64 bits: rows name keys by their spelling, and
-- of such values no two are spelled alike.
pub record HasLasted (plan : Plan) (function : ℕ) (rows : List Combined) (arrivals : List Arrival) : Type 0 where
  pub elements : List Element
  pub each : map combined_element rows ≡ map Some elements
  pub storable : All (λ element. IsStorable element.value) elements
  pub arrived : map Arrives arrivals ≡ chains_of plan function elements
