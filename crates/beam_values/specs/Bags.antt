-- Bags: lists whose order does not matter and whose repeats do.
use Rattle.std.specs.Prelude.{◌≡◌, ℕ, List, sum_by}

-- two lists are one bag: whatever weight each item has, both weigh the same
pub record IsSameBag {X : Type 0} (xs ys : List X) : Type 0 where
  pub weighs : (weight : X → ℕ) → sum_by weight xs ≡ sum_by weight ys
