-- Spreads over ranges of offsets: how they join, and what a step from one line to the next leaves out.
use Rattle.std.proofs.Common.{◌≡◌, false, not, ℕ, zero, suc, ◌+◌, ◌-◌, ◌<◌, ◌≤◌, ◌⊎◌, inl, inr, false, List, [], ◌∷◌, ◌++◌, length, drop, get_or, refl, ap, sym, ◌∙◌, arith}
use Rattle.std.proofs.lemmas.List.{append-nil}
use Rattle.std.proofs.lemmas.Bool.{cases_lt, not-true}
use Rattle.std.proofs.lemmas.List.{get_or-drop}
use Rattle.std.proofs.lemmas.List.Sums.{prefix_len_passes}
use Rattle.std.specs.List.{flat_map}
use Rattle.std.proofs.lemmas.Grind.{flat_map-append}
use Rattle.beam_values.specs.Lines.{offsets, spread, is_line_feed, starts_line, line_len, next_start}

offsets-zero : (from : ℕ) → offsets from 0 ≡ []
unfolding offsets
offsets-zero from = refl

offsets-suc : (from n : ℕ) → offsets from (suc n) ≡ from ∷ offsets (suc from) n
unfolding offsets
offsets-suc from n = refl

offsets-append : (from m n : ℕ) → offsets from (m + n) ≡ offsets from m ++ offsets (from + m) n
offsets-append from zero n =
    let count : 0 + n ≡ n = omega arith in
    let start : from ≡ from + 0 = omega arith in
    ap (offsets from) count ∙ ap (λ f. offsets f n) start ∙ ap (λ t. t ++ offsets (from + 0) n) (sym (offsets-zero from))
offsets-append from (suc m) n =
    let count : suc m + n ≡ suc (m + n) = omega arith in
    let start : suc from + m ≡ from + suc m = omega arith in
    ap (offsets from) count ∙ offsets-suc from (m + n) ∙ ap (λ t. from ∷ t) (offsets-append (suc from) m n ∙ ap (λ f. offsets (suc from) m ++ offsets f n) start)
    ∙ ap (λ t. t ++ offsets (from + suc m) n) (sym (offsets-suc from m))

module _ {X : Type 0} (at : ℕ → List X) where
  -- nothing is spread over an empty range
  pub spread-empty : (from to : ℕ) → to ≤ from → spread at from to ≡ []
  spread-empty from to empty =
      let count : to - from ≡ 0 = omega arith in
      ap (λ n. flat_map at (offsets from n)) count ∙ ap (flat_map at) (offsets-zero from)

  -- two neighbouring ranges spread what both together spread
  pub spread-join : (from middle to : ℕ) → from ≤ middle → middle ≤ to → spread at from to ≡ spread at from middle ++ spread at middle to
  spread-join from middle to low high =
      let count : to - from ≡ (middle - from) + (to - middle) = omega arith in
      let start : from + (middle - from) ≡ middle = omega arith in
      ap (λ n. flat_map at (offsets from n)) count
      ∙ ap (flat_map at) (offsets-append from (middle - from) (to - middle) ∙ ap (λ f. offsets from (middle - from) ++ offsets f (to - middle)) start)
      ∙ flat_map-append at (offsets from (middle - from)) (offsets middle (to - middle))

  -- one offset spreads what it gives
  pub spread-single : (p : ℕ) → spread at p (p + 1) ≡ at p
  spread-single p =
      let count : (p + 1) - p ≡ suc 0 = omega arith in
      ap (λ n. flat_map at (offsets p n)) count ∙ ap (flat_map at) (offsets-suc p 0 ∙ ap (λ t. p ∷ t) (offsets-zero (suc p))) ∙ append-nil (at p)

  spread_nothing_along : (from n : ℕ) → ((q : ℕ) → from ≤ q → q < from + n → at q ≡ []) → flat_map at (offsets from n) ≡ []
  spread_nothing_along from zero none = ap (flat_map at) (offsets-zero from)
  spread_nothing_along from (suc n) none =
      ap (flat_map at) (offsets-suc from n)
      ∙ ap (λ t. t ++ flat_map at (offsets (suc from) n)) (none from (omega arith) (omega arith))
      ∙ spread_nothing_along (suc from) n (λ q low high. none q (omega arith) (omega arith))

  -- a range whose offsets give nothing spreads nothing
  pub spread-nothing : (from to : ℕ) → ((q : ℕ) → from ≤ q → q < to → at q ≡ []) → spread at from to ≡ []
  spread-nothing from to none = spread_nothing_along from (to - from) (λ q low high. none q low (omega arith))

  -- where nothing is given between p and next, a range that begins at p spreads what p gives and what the range from next on does
  pub spread-step : (p next to : ℕ) → p < to → p < next → ((q : ℕ) → p < q → q < next → at q ≡ []) → spread at p to ≡ at p ++ spread at next to
  spread-step p next to inside above none =
      let after : (q : ℕ) → p + 1 ≤ q → q < next → at q ≡ [] = λ q low high. none q (omega arith) high in
      let beyond : (next < to) ⊎ (to ≤ next) → spread at (p + 1) to ≡ spread at next to = λ c. elim c [
        | inl h ↦ spread-join (p + 1) next to (omega arith) (omega arith) ∙ ap (λ t. t ++ spread at next to) (spread-nothing (p + 1) next after)
        | inr h ↦ spread-nothing (p + 1) to (λ q low high. after q low (omega arith)) ∙ sym (spread-empty next to h)
      ] in
      spread-join p (p + 1) to (omega arith) (omega arith) ∙ ap (λ t. t ++ spread at (p + 1) to) (spread-single p) ∙ ap (λ t. at p ++ t) (beyond (cases_lt next to))

-- no line starts strictly between an offset and the next line start
pub starts_line-between : (file : List ℕ) (p q : ℕ) → p < q → q < next_start file p → starts_line file q ≡ false
starts_line-between file p zero above below = absurd (omega arith)
starts_line-between file p (suc r) above below =
    let inside : r - p < line_len (drop p file) = omega arith in
    let byte : get_or (drop p file) (r - p) 0 ≡ get_or file r 0 =
    get_or-drop p file (r - p) 0 ∙ ap (λ k. get_or file k 0) (omega arith) in
    not-true _ (ap (λ b. not (is_line_feed b)) (sym byte) ∙ prefix_len_passes (λ b. not (is_line_feed b)) (drop p file) (r - p) 0 inside)

-- the next line start lies above
pub next_start-above : (file : List ℕ) (p : ℕ) → p < length file → p < next_start file p
next_start-above file p inside = omega arith
