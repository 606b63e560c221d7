-- How many texts there are, and which, as far as a command asks.
use Rattle.std.specs.Prelude.{ℕ, Bool, true, false, List, [], ◌∷◌}

-- none, one or two texts, or more of them
pub data Few : Type 0 where
  Nothing : Few
  One : List ℕ → Few
  Two : List ℕ → List ℕ → Few
  More : Few

abbrev pub few : List (List ℕ) → Few
few [] = Nothing
few (a ∷ []) = One a
few (a ∷ (b ∷ [])) = Two a b
few (a ∷ (b ∷ (c ∷ texts))) = More

-- the same with one more text after them
abbrev pub with_text : Few → List ℕ → Few
with_text Nothing text = One text
with_text (One a) text = Two a text
with_text (Two a b) text = More
with_text More text = More

abbrev pub is_nothing : Few → Bool
is_nothing Nothing = true
is_nothing _ = false
