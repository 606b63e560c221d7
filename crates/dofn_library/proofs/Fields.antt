-- The first field of a text, and the fields after it.
use Rattle.std.proofs.Common.{◌≡◌, ◌≢◌, ℕ, suc, ◌+◌, ◌-◌, ◌<◌, Bool, true, false, not, cond, List, [], ◌∷◌, ◌++◌, length, take, drop, Some, None, refl, ap, ◌∙◌, append_assoc, arith}
use Rattle.std.specs.Prelude.{if◌then◌else◌, nat_lt, slice_get}
use Rattle.std.specs.List.{position_or_len, before_first, after_first}
use Rattle.std.proofs.lemmas.Bool.Decides.{nat_tests}
use Rattle.std.proofs.lemmas.Grind.{common_steps}
use Rattle.beam_values.specs.Functions.{is_tab, has_tab}
use Rattle.beam_model.specs.Texts.{fields, fields_after}

-- the part of a text before a place, and the fields after that place
abbrev parted : List ℕ → List ℕ → ℕ → List (List ℕ)
parted taken text at = (taken ++ take at text) ∷ (if nat_lt at (length text) then fields (drop (at + 1) text) else [])

parted-cons : (taken : List ℕ) (byte : ℕ) (bytes : List ℕ) (at : ℕ) → parted (taken ++ byte ∷ []) bytes at ≡ parted taken (byte ∷ bytes) (suc at)
parted-cons taken byte bytes at =
    let front : (taken ++ byte ∷ []) ++ take at bytes ≡ taken ++ byte ∷ take at bytes = append_assoc taken (byte ∷ []) (take at bytes) in
    let within : nat_lt at (length bytes) ≡ nat_lt (suc at) (length (byte ∷ bytes)) = grind (arith, nat_tests) in
    let later : suc at + 1 ≡ suc (at + 1) = omega arith in
    rw (later, front, within) refl

fields_after_first : (taken text : List ℕ) → fields_after taken text ≡ parted taken text (position_or_len is_tab text)
fields_after_first taken [] = grind (arith, common_steps)
fields_after_first taken (byte ∷ bytes) = by_test (is_tab byte) (fields_after_first (taken ++ byte ∷ []) bytes)
  where
    by_test : (tab : Bool) → fields_after (taken ++ byte ∷ []) bytes ≡ parted (taken ++ byte ∷ []) bytes (position_or_len is_tab bytes)
        → (if tab then taken ∷ fields_after [] bytes else fields_after (taken ++ byte ∷ []) bytes)
        ≡ parted taken (byte ∷ bytes) (cond (not tab) (1 + position_or_len is_tab bytes) 0)
    by_test true rest = grind (arith, common_steps, nat_tests)
    by_test false rest =
        let one_more : suc (position_or_len is_tab bytes) ≡ 1 + position_or_len is_tab bytes = omega arith in
        rest ∙ parted-cons taken byte bytes (position_or_len is_tab bytes) ∙ ap (parted taken (byte ∷ bytes)) one_more

-- the first field, and each later one among those after the first TAB
pub first_field : (text : List ℕ) → slice_get (fields text) 0 ≡ Some (before_first is_tab text)
first_field text = rw (fields_after_first [] text) refl

later_field : (text : List ℕ) (number : ℕ) → has_tab text ≡ true
    → slice_get (fields text) (suc number) ≡ slice_get (fields (after_first is_tab text)) number
later_field text number e = rw (fields_after_first [] text, e) refl

no_later_field : (text : List ℕ) (number : ℕ) → has_tab text ≡ false → slice_get (fields text) (suc number) ≡ None
no_later_field text number e = rw (fields_after_first [] text, e) refl

-- the same, counted from the first field of all: where the first field here is all there is, and where it isn't
pub past_the_last : (text front : List ℕ) (number at : ℕ) → front ≡ before_first is_tab text → length front ≡ length text → at < number
    → slice_get (fields text) (number - at) ≡ None
past_the_last text front number at is all more =
    let one_more : number - at ≡ suc (number - at - 1) = omega arith in
    rw one_more (no_later_field text (number - at - 1) (grind (arith, nat_tests, common_steps)))

pub after_the_first : (text front : List ℕ) (number at : ℕ) → front ≡ before_first is_tab text → length front ≢ length text → at < number
    → slice_get (fields text) (number - at) ≡ slice_get (fields (after_first is_tab text)) (number - (at + 1))
after_the_first text front number at is part more =
    let one_more : number - at ≡ suc (number - (at + 1)) = omega arith in
    rw one_more (later_field text (number - (at + 1)) (grind (arith, nat_tests, common_steps)))
