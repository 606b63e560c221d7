-- What the joins of side inputs find among the parts of a pane.
use Rattle.std.specs.Prelude.{◌≡◌, Bool, false, bytes_eq, unwrap_or, List, [], ◌∷◌, Option, Some, None, if◌then◌else◌}
use Rattle.std.specs.List.{flat_map, list_all}
use Rattle.std.specs.Option.{option_and_then, option_map}
use Rattle.std.specs.Ordering.{is_lt}
use Rattle.beam_values.specs.Orders.{value_cmp}
use Rattle.beam_values.specs.Spelling.{spelling}
use Rattle.beam_values.specs.declared.value.Value.{Value}
use Rattle.beam_model.specs.Functions.{ascending, found_in, is_side_part, side_parts}
use Rattle.beam_model.specs.Values.{as_pair, pair, seq}

-- the items of a list that may have one
abbrev pub at_most_one : {X : Type 0} → Option X → List X
at_most_one None = []
at_most_one (Some x) = x ∷ []

abbrev pub where_tagged : List Value → Option (List Value)
where_tagged parts = if list_all is_side_part parts then Some parts else None

-- the parts of a pane of a side input, where each has one of the two tags
abbrev pub sides_of : Value → Option (List Value)
sides_of pane = option_and_then where_tagged (option_and_then side_parts (as_pair pane))

-- a main value with what belongs to its key in the view; nothing where it has no key
abbrev pub looked_up : List Value → Value → List Value
looked_up views main = at_most_one (option_map (λ keyed. pair main (seq (ascending (flat_map (found_in keyed.key) views)))) (as_pair main))

-- what belongs to a key in a view, all of it and in the order of the view
abbrev pub IsAllFound : List Value → Value → Value → Type 0
IsAllFound views key part = part ≡ seq (flat_map (found_in key) views)

-- a pair with this key, and one whose key is less
abbrev pub has_key : Value → Value → Bool
has_key key view = unwrap_or (option_map (λ keyed. bytes_eq (spelling keyed.key) (spelling key)) (as_pair view)) false

abbrev pub is_before : Value → Value → Bool
is_before key view = unwrap_or (option_map (λ keyed. is_lt (value_cmp keyed.key key)) (as_pair view)) false
