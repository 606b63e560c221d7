-- What a made line has of its number are remainders, which repeat.
use Rattle.std.proofs.Common.{◌≡◌, ℕ, ◌+◌, ◌*◌, ◌%◌, List, ◌∷◌, ◌++◌, ◌∙◌, ap, arith}
use Rattle.std.specs.Prelude.{codes, decimal}
use Rattle.beam_values.specs.Lines.{spread}
use Rattle.beam_values.proofs.Spreads.{spread-join, spread-single}
use Rattle.beam_model.specs.Positions.{made_line}

line_of : ℕ → ℕ → ℕ → List ℕ
line_of time key value = decimal time ++ 9 ∷ (codes "k" ++ (decimal key ++ 9 ∷ decimal value))

pub made_line_again : (number p : ℕ) → made_line (number % 2000) p ≡ made_line number p
unfolding line_of
made_line_again number p =
    let time : 100 * p + (37 * (p + number % 2000)) % 100 ≡ 100 * p + (37 * (p + number)) % 100 = omega arith in
    let key : (7 * p + number % 2000) % 16 ≡ (7 * p + number) % 16 = omega arith in
    let value : (p + number % 2000) % 1000 ≡ (p + number) % 1000 = omega arith in
    ap (λ (n : ℕ). line_of n ((7 * p + number % 2000) % 16) ((p + number % 2000) % 1000)) time
    ∙ ap (λ (n : ℕ). line_of (100 * p + (37 * (p + number)) % 100) n ((p + number % 2000) % 1000)) key
    ∙ ap (λ (n : ℕ). line_of (100 * p + (37 * (p + number)) % 100) ((7 * p + number) % 16) n) value

-- one position more
pub spread_more : (at : ℕ → List ℕ) (i : ℕ) → spread at 0 (i + 1) ≡ spread at 0 i ++ at i
spread_more at i = spread-join at 0 i (i + 1) (omega arith) (omega arith) ∙ ap (λ (text : List ℕ). spread at 0 i ++ text) (spread-single at i)
