-- The items at some places of a list: what is read of them, and what becomes of them, one place after another. A place behind the list has none.
use Rattle.std.specs.Prelude.{ℕ, List, [], ◌∷◌, ◌++◌, slice_get, slice_set, unwrap_or}
use Rattle.std.specs.Option.{option_map}

-- what is read of the item at a place
abbrev pub at_place : {X A : Type 0} → (X → A) → A → List X → ℕ → A
at_place f none xs place = unwrap_or (option_map f (slice_get xs place)) none

-- the item at a place becomes another
abbrev pub changed_at : {X : Type 0} → (X → X) → List X → ℕ → List X
changed_at f xs place = at_place (λ x. slice_set xs place (f x)) xs xs place

-- what the items at the places give, where each becomes another as soon as it gave
abbrev pub given_all : {X Y : Type 0} → (X → X) → (X → List Y) → List ℕ → List X → List Y
given_all f g [] xs = []
given_all f g (place ∷ places) xs = at_place g [] xs place ++ given_all f g places (changed_at f xs place)
