-- What the positions of a range bring.
use Rattle.std.proofs.Common.{◌≡◌, ℕ, ◌<◌, ◌≤◌, List, [], ◌++◌, ap, ◌∙◌, arith}
use Rattle.std.proofs.lemmas.List.{append-nil}
use Rattle.beam_values.specs.Lines.{spread}
use Rattle.beam_values.proofs.Spreads.{spread-join, spread-nothing}

-- the positions of a range bring nothing
abbrev pub Quiet : {X : Type 0} → (ℕ → List X) → ℕ → ℕ → Type 0
Quiet at from to = (q : ℕ) → from ≤ q → q < to → at q ≡ []

module _ {X : Type 0} (at : ℕ → List X) where
  -- what two ranges spread, of which the second begins after the first, and all between them is quiet
  pub spread_gap : (from reached middle to : ℕ) → from ≤ reached → reached ≤ middle → middle ≤ to → Quiet at reached middle → spread at from to ≡ spread at from reached ++ spread at middle to
  spread_gap from reached middle to low between high quiet =
      spread-join at from reached to low (omega arith)
      ∙ ap (λ t. spread at from reached ++ t) (spread-join at reached middle to between high ∙ ap (λ t. t ++ spread at middle to) (spread-nothing at reached middle quiet))

  -- a range whose rest is quiet brings what its front does
  pub spread_rest : (from reached p to : ℕ) → from ≤ reached → reached ≤ to → to ≤ p → Quiet at reached p → spread at from to ≡ spread at from reached
  spread_rest from reached p to low within past quiet =
      spread-join at from reached to low within
      ∙ ap (λ t. spread at from reached ++ t) (spread-nothing at reached to (λ q above below. quiet q above (omega arith)))
      ∙ append-nil (spread at from reached)
