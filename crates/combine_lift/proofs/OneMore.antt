-- Accumulators of numbers, one part more and those of two lists.
use Rattle.std.proofs.Common.{◌≡◌, ℕ, ◌+◌, ℤ, pos, ◌+ℤ◌, ◌||◌, List, [], ◌∷◌, ◌++◌, Option, Some, None, refl, sym, ap, ◌∙◌, arith, length-append}
use Rattle.std.specs.Prelude.{nat_lt}
use Rattle.std.specs.List.{sum_by}
use Rattle.std.proofs.lemmas.Int.{ints}
use Rattle.std.proofs.lemmas.List.Sums.{sum_by-append}
use Rattle.beam_values.specs.declared.value.Value.{Value}
use Rattle.beam_model.specs.Values.{as_int}
use Rattle.combine_lift.specs.Parts.{weight, no_weight, above_zero, below_zero, one_if_reached, reaching}
use Rattle.combine_lift.specs.Standing.{IsSumOf, IsMaxOf, greater_of, is_reached}
use Rattle.combine_lift.proofs.Folding.{up_to_sign, some_of_two, reached_once, is_reached-greater_of}

weigh_append : (other : ℕ) (of : ℤ → ℕ) (parts others : List Value)
    → sum_by (λ part. weight other of (as_int part)) (parts ++ others)
    ≡ sum_by (λ part. weight other of (as_int part)) parts + sum_by (λ part. weight other of (as_int part)) others
weigh_append other of parts others = sum_by-append (λ part. weight other of (as_int part)) parts others

-- ---- two lists

pub sum_merged : (total more : ℤ) (size count : ℕ) (parts others : List Value) → IsSumOf total size parts → IsSumOf more count others
    → IsSumOf (total +ℤ more) (size + count) (parts ++ others)
sum_merged total more size count parts others stands also = record {
  numbers = omega (arith, weigh_append 1 no_weight parts others, stands.numbers, also.numbers);
  adds = omega (arith, ints, weigh_append 0 below_zero parts others, weigh_append 0 above_zero parts others, stands.adds, also.adds);
  count = omega (arith, length-append parts others, stands.count, also.count);
}

pub max_merged : (greatest most : Option ℤ) (size count : ℕ) (parts others : List Value) → IsMaxOf greatest size parts → IsMaxOf most count others
    → IsMaxOf (greater_of greatest most) (size + count) (parts ++ others)
max_merged greatest most size count parts others stands also = record {
  numbers = omega (arith, weigh_append 1 no_weight parts others, stands.numbers, also.numbers);
  reached = λ bound.
      ap (nat_lt 0) (weigh_append 0 (one_if_reached bound) parts others)
      ∙ some_of_two (reaching bound parts) (reaching bound others)
      ∙ ap (λ b. b || nat_lt 0 (reaching bound others)) (stands.reached bound)
      ∙ ap (λ b. is_reached bound greatest || b) (also.reached bound)
      ∙ sym (is_reached-greater_of bound greatest most);
  count = omega (arith, length-append parts others, stands.count, also.count);
}

-- ---- one part alone

one_weighs : (other : ℕ) (of : ℤ → ℕ) (part : Value) (n : ℤ) → as_int part ≡ Some n → sum_by (λ part. weight other of (as_int part)) (part ∷ []) ≡ of n
one_weighs other of part n is = ap (λ o. 0 + weight other of o) is ∙ omega arith

sum_of_one : (part : Value) (n : ℤ) → as_int part ≡ Some n → IsSumOf n 1 (part ∷ [])
sum_of_one part n is = record {
  numbers = one_weighs 1 no_weight part n is;
  adds = ap (λ k. n +ℤ pos k) (one_weighs 0 below_zero part n is) ∙ up_to_sign n ∙ ap (λ k. pos k) (sym (one_weighs 0 above_zero part n is));
  count = refl;
}

max_of_one : (part : Value) (n : ℤ) → as_int part ≡ Some n → IsMaxOf (Some n) 1 (part ∷ [])
max_of_one part n is = record {
  numbers = one_weighs 1 no_weight part n is;
  reached = λ bound. ap (nat_lt 0) (one_weighs 0 (one_if_reached bound) part n is) ∙ reached_once bound n;
  count = refl;
}

pub sum_added : (total : ℤ) (size : ℕ) (parts : List Value) (part : Value) (n : ℤ) → as_int part ≡ Some n → IsSumOf total size parts
    → IsSumOf (total +ℤ n) (size + 1) (parts ++ part ∷ [])
sum_added total size parts part n is stands = sum_merged total n size 1 parts (part ∷ []) stands (sum_of_one part n is)

pub max_added : (greatest : Option ℤ) (size : ℕ) (parts : List Value) (part : Value) (n : ℤ) → as_int part ≡ Some n → IsMaxOf greatest size parts
    → IsMaxOf (greater_of greatest (Some n)) (size + 1) (parts ++ part ∷ [])
max_added greatest size parts part n is stands = max_merged greatest (Some n) size 1 parts (part ∷ []) stands (max_of_one part n is)

pub sum_of_none : IsSumOf (pos 0) 0 []
sum_of_none = record { numbers = refl; adds = refl; count = refl }

pub max_of_none : IsMaxOf None 0 []
max_of_none = record { numbers = refl; reached = λ bound. refl; count = refl }
