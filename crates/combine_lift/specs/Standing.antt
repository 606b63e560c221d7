-- What accumulators of numbers stand for, and that the order of their parts is no matter.
use Rattle.std.specs.Prelude.{◌≡◌, ℕ, ℤ, pos, ◌+ℤ◌, Bool, false, int_le, nat_lt, List, length, Option, Some, None}
use Rattle.std.specs.Int.{int_max}
use Rattle.std.proofs.Common.{[], ◌∷◌, refl, sym, ap, ◌∙◌, arith}
use Rattle.std.proofs.lemmas.List.Sums.{sum_by-cons}
use Rattle.std.specs.List.{sum_by}
use Rattle.beam_values.specs.Bags.{IsSameBag}
use Rattle.beam_values.specs.declared.value.Value.{Value}
use Rattle.beam_model.specs.Values.{as_int, int, null}
use Rattle.combine_lift.specs.Parts.{weight, no_weight, above_zero, below_zero, one_if_reached, others_in, all_above, all_below, reaching}

-- All parts are numbers, and this is their sum: it and how far the ones below zero go are how far those above do. Of 3, -5 and 4 the sum is 2, and
-- 2 + 5 = 7; of no parts it is 0.
pub record IsSumOf (total : ℤ) (size : ℕ) (parts : List Value) : Type 0 where
  pub numbers : others_in parts ≡ 0
  pub adds : total +ℤ pos (all_below parts) ≡ pos (all_above parts)
  pub count : size ≡ length parts

-- a bound is reached by a greatest number, if there is one
abbrev pub is_reached : ℤ → Option ℤ → Bool
is_reached bound None = false
is_reached bound (Some n) = int_le bound n

-- the greater of two numbers, of which either may be missing: of 3 and none it is 3
abbrev pub greater_of : Option ℤ → Option ℤ → Option ℤ
greater_of None b = b
greater_of (Some a) None = Some a
greater_of (Some a) (Some b) = Some (int_max a b)

-- what is given for a greatest number, if there is one, and for none
abbrev pub value_of : Option ℤ → Value
value_of None = null
value_of (Some n) = int n

-- All parts are numbers, and this is the greatest: some part reaches just the bounds that it does. Of 3, -5 and 4 the greatest is 4, which some part
-- reaches, as no part does 5; of no parts there is none.
pub record IsMaxOf (greatest : Option ℤ) (size : ℕ) (parts : List Value) : Type 0 where
  pub numbers : others_in parts ≡ 0
  pub reached : (bound : ℤ) → nat_lt 0 (reaching bound parts) ≡ is_reached bound greatest
  pub count : size ≡ length parts

-- as many as there are ones
length_by_ones : {X : Type 0} (xs : List X) → sum_by (λ x. 1) xs ≡ length xs
length_by_ones [] = refl
length_by_ones (x ∷ xs) = omega (arith, sum_by-cons (λ y. 1) x xs, length_by_ones xs)

pub count_in_any_order : (size : ℕ) (parts others : List Value) → IsSameBag parts others → size ≡ length parts → size ≡ length others
count_in_any_order size parts others same counts = counts ∙ sym (length_by_ones parts) ∙ same.weighs (λ part. 1) ∙ length_by_ones others

pub sum_in_any_order : (total : ℤ) (size : ℕ) (parts others : List Value) → IsSameBag parts others → IsSumOf total size parts → IsSumOf total size others
sum_in_any_order total size parts others same stands = record {
  numbers = sym (same.weighs (λ part. weight 1 no_weight (as_int part))) ∙ stands.numbers;
  adds = ap (λ n. total +ℤ pos n) (sym (same.weighs (λ part. weight 0 below_zero (as_int part)))) ∙ stands.adds
      ∙ ap (λ n. pos n) (same.weighs (λ part. weight 0 above_zero (as_int part)));
  count = count_in_any_order size parts others same stands.count;
}

pub max_in_any_order : (greatest : Option ℤ) (size : ℕ) (parts others : List Value) → IsSameBag parts others → IsMaxOf greatest size parts → IsMaxOf greatest size others
max_in_any_order greatest size parts others same stands = record {
  numbers = sym (same.weighs (λ part. weight 1 no_weight (as_int part))) ∙ stands.numbers;
  reached = λ bound. ap (nat_lt 0) (sym (same.weighs (λ part. weight 0 (one_if_reached bound) (as_int part)))) ∙ stands.reached bound;
  count = count_in_any_order size parts others same stands.count;
}
