-- What a text that `parse` reads is, by the test that definitions compute with.
use Rattle.std.proofs.Common.{◌≡◌, ℕ, ◌≤◌, Bool, true, false, nat_le, List, [], ◌∷◌, length, Decides, Some, None, refl, arith}
use Rattle.std.specs.Str.{all_ascii_digits}
use Rattle.std.specs.Str.Parse.{AllDigits, IsNumeral, without_leading_plus}
use Rattle.std.proofs.lemmas.Bool.Decides.{Decides-and, Decides-ltb, nat_tests}
use Rattle.std.proofs.lemmas.Str.Parse.{tells_all_ascii_digits, tells_digits}
use Rattle.command_words.specs.Numbers.{is_number, is_number_within, number_of_text, number_within}

digits_pass : (ds : List ℕ) → AllDigits 10 ds → all_ascii_digits ds ≡ true
digits_pass [] h = refl
digits_pass (c ∷ cs) h =
    let parts = tells_digits.parts c cs h in
    tells_all_ascii_digits.more c cs parts.0 (digits_pass cs parts.1)

passing_are_digits : (ds : List ℕ) → all_ascii_digits ds ≡ true → AllDigits 10 ds
passing_are_digits [] h = tells_digits.empty
passing_are_digits (c ∷ cs) h =
    let parts = tells_all_ascii_digits.parts c cs h in
    tells_digits.more c cs parts.0 (passing_are_digits cs parts.1)

pub is_number-Decides : (text : List ℕ) → Decides (is_number text) (IsNumeral 10 (without_leading_plus text))
is_number-Decides text = Decides-and _ _ (Decides-ltb 0 (length (without_leading_plus text))) (passing_are_digits _, digits_pass _)

le-Decides : (a b : ℕ) → Decides (nat_le a b) (a ≤ b)
le-Decides a b = (λ h. grind (arith, nat_tests), λ h. grind (arith, nat_tests))

-- a numeral within the bounds
abbrev pub IsWithin : ℕ → ℕ → List ℕ → Type 0
IsWithin low high text = IsNumeral 10 (without_leading_plus text) × ((low ≤ number_of_text text) × (number_of_text text ≤ high))

pub is_number_within-Decides : (low high : ℕ) (text : List ℕ) → Decides (is_number_within low high text) (IsWithin low high text)
is_number_within-Decides low high text =
    Decides-and _ _ (is_number-Decides text) (Decides-and _ _ (le-Decides low (number_of_text text)) (le-Decides (number_of_text text) high))

pub number_within-some : (low high : ℕ) (text : List ℕ) → IsWithin low high text → number_within low high text ≡ Some (number_of_text text)
number_within-some low high text h = let test = (is_number_within-Decides low high text).1 h in rw test

none_where : (low high : ℕ) (text : List ℕ) (b : Bool) → is_number_within low high text ≡ b → (IsWithin low high text → ⊥) → number_within low high text ≡ None
none_where low high text true test h = absurd (h ((is_number_within-Decides low high text).0 test))
none_where low high text false test h = rw test

pub number_within-none : (low high : ℕ) (text : List ℕ) → (IsWithin low high text → ⊥) → number_within low high text ≡ None
number_within-none low high text h = none_where low high text _ refl h
