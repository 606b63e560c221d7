-- What a search for a byte says of the first place where it stands.
use Rattle.std.proofs.Common.{◌≡◌, ℕ, Bool, true, false, List, length, Option, Some, None, arith, refl, sym}
use Rattle.std.specs.List.{position_or_len}
use Rattle.std.specs.Option.{unwrap_or}
use Rattle.std.proofs.lemmas.List.Sums.{position_or_len_is}
use Rattle.memchr.specs.Find.{IsFirstByte}

is_false : (b : Bool) → (b ≡ true → ⊥) → b ≡ false
is_false true never = absurd (never refl)
is_false false never = refl

-- the place that a search answers is the first one, and it answers none where the byte stands nowhere
pub position_or_len_found : (test : ℕ → Bool) (text : List ℕ) (r : Option ℕ) → IsFirstByte test text r
    → unwrap_or r (length text) ≡ position_or_len test text
position_or_len_found test text None h =
    sym (position_or_len_is test text (length text) 0 (omega arith) (λ k below. is_false _ (h k (omega arith) below)) (λ below. absurd (omega arith)))
position_or_len_found test text (Some at) h =
    sym (position_or_len_is test text at 0 (omega (arith, h.0.high)) (λ k below. is_false _ (h.0.before k (omega arith) below)) (λ below. h.1))
