-- Byte strings that are printed as they are.
use Rattle.std.proofs.Common.{rules, ◌≡◌, ℕ, ◌+◌, ◌-◌, ◌<◌, ◌≤◌, Bool, true, false, not, ◌&&◌, ◌||◌, inl, inr, List, [], ◌∷◌, ◌++◌, length, get_or, take, drop, ap, refl, subst, sym, ◌∙◌, arith}
use Rattle.std.specs.List.{All, flat_map}
use Rattle.std.proofs.lemmas.Bool.{cases_lt}
use Rattle.std.proofs.lemmas.List.{get_or-take, get_or-drop, take_all, length-take, length-drop}
use Rattle.std.proofs.lemmas.List.Concat.{flat_map-cons}
use Rattle.std.proofs.lemmas.List.Elements.{All-head, All-tail, All-more}
use Rattle.beam_values.specs.Texts.{byte_text, is_escaped}
use Rattle.beam_text.specs.Parts.{IsPlain}

plain_byte : (byte : ℕ) → IsPlain byte → byte_text byte ≡ byte ∷ []
plain_byte byte plain = search (rules, plain)

pub plain_same : (bytes : List ℕ) → All IsPlain bytes → flat_map byte_text bytes ≡ bytes
plain_same [] plain = refl
plain_same (byte ∷ bytes) plain =
    flat_map-cons byte_text byte bytes
    ∙ ap (λ l. l ++ flat_map byte_text bytes) (plain_byte byte (All-head IsPlain byte bytes plain))
    ∙ ap (λ l. byte ∷ l) (plain_same bytes (All-tail IsPlain byte bytes plain))

-- one more byte was looked at
pub more_plain : (any escaped : Bool) (bytes : List ℕ) (i : ℕ) → i < length bytes → escaped ≡ is_escaped (get_or bytes i 0)
    → (any ≡ false → All IsPlain (take i bytes)) → any || escaped ≡ false → All IsPlain (take (i + 1) bytes)
more_plain false false bytes i within is before none = All-more IsPlain bytes i 0 within (before refl) (sym is)
more_plain false true bytes i within is before none = absurd cc
more_plain true escaped bytes i within is before none = absurd cc

-- all bytes were looked at
pub wholly_plain : (any : Bool) (bytes : List ℕ) (i : ℕ) → length bytes ≤ i → (any ≡ false → All IsPlain (take i bytes)) → not any ≡ true
    → All IsPlain bytes
wholly_plain false bytes i end before none = subst (All IsPlain) (take_all i bytes end) (before refl)
wholly_plain true bytes i end before none = absurd cc

pub both_hold : (a b : Bool) → a && b ≡ true → (a ≡ true) × (b ≡ true)
both_hold true true h = (refl, refl)
both_hold true false h = absurd cc
both_hold false b h = absurd cc

-- the first n and the last n are all of at most 2 n
pub all_by_ends : {X : Type 0} (P : X → Type 0) (n : ℕ) (xs : List X) → n ≤ length xs → length xs ≤ n + n → All P (take n xs)
    → All P (drop (length xs - n) xs) → All P xs
all_by_ends P n xs long short first last k d within =
    elim (cases_lt k n) [
      | inl below ↦
          let there : k < length (take n xs) = omega (arith, length-take n xs) in
          subst P (get_or-take n xs k d below) (first k d there)
      | inr above ↦
          let start : ℕ = length xs - n in
          let there : k - start < length (drop start xs) = omega (arith, length-drop start xs) in
          let same : start + (k - start) ≡ k = omega arith in
          subst P (get_or-drop start xs (k - start) d ∙ ap (λ (i : ℕ). get_or xs i d) same) (last (k - start) d there)
    ]
