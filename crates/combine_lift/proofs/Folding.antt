-- What the functions of sequences give of the parts that accumulators stand for.
use Rattle.std.proofs.Common.{◌≡◌, ℕ, ◌+◌, ℤ, pos, negsuc, ◌+ℤ◌, Bool, true, false, cond, ◌||◌, List, [], ◌∷◌, length, Option, Some, None, refl, sym, ap, ◌∙◌, arith}
use Rattle.std.specs.Prelude.{int_le, nat_lt}
use Rattle.std.specs.Int.{int_max}
use Rattle.std.specs.List.{fold, sum_by}
use Rattle.std.specs.Option.{option_map, option_and_then}
use Rattle.std.proofs.lemmas.Bool.{false≢true}
use Rattle.std.proofs.lemmas.Bool.Decides.{nat_tests}
use Rattle.std.proofs.lemmas.Int.{ints}
use Rattle.std.proofs.lemmas.List.Sums.{sum_by-cons}
use Rattle.beam_values.specs.declared.plan.FnKind.TheVariants.{SumSeq, CountSeq, MaxSeq}
use Rattle.beam_values.specs.declared.value.Value.{Value}
use Rattle.beam_values.specs.declared.value.Value.TheViews.{out-roll-Value}
use Rattle.beam_model.specs.Functions.{fold_of, sum_of, in_word, greatest_of}
use Rattle.beam_model.specs.Values.{int, seq, as_int, as_seq, numbers_in, with_first}
use Rattle.combine_lift.specs.Parts.{weight, no_weight, above_zero, below_zero, one_if_reached, others_in, all_above, all_below, reaching}
use Rattle.combine_lift.specs.Standing.{IsSumOf, IsMaxOf, greater_of, is_reached, value_of}

-- ---- one part in front of the others

weigh_cons : (other : ℕ) (of : ℤ → ℕ) (part : Value) (parts : List Value) (found : Option ℤ) → as_int part ≡ found
    → sum_by (λ part. weight other of (as_int part)) (part ∷ parts) ≡ weight other of found + sum_by (λ part. weight other of (as_int part)) parts
weigh_cons other of part parts found is =
    sum_by-cons (λ part. weight other of (as_int part)) part parts ∙ ap (λ o. weight other of o + sum_by (λ part. weight other of (as_int part)) parts) is

pub up_to_sign : (n : ℤ) → n +ℤ pos (below_zero n) ≡ pos (above_zero n)
up_to_sign (pos n) = omega (arith, ints)
up_to_sign (negsuc n) = omega (arith, ints)

-- ---- sums

sum_from : (a : ℤ) (numbers : List ℤ) → fold (λ sum n. sum +ℤ n) a numbers ≡ a +ℤ sum_of numbers
sum_from a [] = omega (arith, ints)
sum_from a (n ∷ numbers) =
    let later : fold (λ sum n. sum +ℤ n) (a +ℤ n) numbers ≡ (a +ℤ n) +ℤ sum_of numbers = sum_from (a +ℤ n) numbers in
    let first : fold (λ sum n. sum +ℤ n) (pos 0 +ℤ n) numbers ≡ (pos 0 +ℤ n) +ℤ sum_of numbers = sum_from (pos 0 +ℤ n) numbers in
    omega (arith, ints)

pub sum_of-cons : (n : ℤ) (numbers : List ℤ) → sum_of (n ∷ numbers) ≡ n +ℤ sum_of numbers
sum_of-cons n numbers =
    let first : fold (λ sum n. sum +ℤ n) (pos 0 +ℤ n) numbers ≡ (pos 0 +ℤ n) +ℤ sum_of numbers = sum_from (pos 0 +ℤ n) numbers in
    omega (arith, ints)

-- numbers that a list of parts reads as, and what they add up to
record IsRead (parts : List Value) : Type 0 where
  numbers : List ℤ
  are : numbers_in parts ≡ Some numbers
  adds : sum_of numbers +ℤ pos (all_below parts) ≡ pos (all_above parts)

read_more : (part : Value) (parts : List Value) (found : Option ℤ) → as_int part ≡ found → others_in (part ∷ parts) ≡ 0
    → (others_in parts ≡ 0 → IsRead parts) → IsRead (part ∷ parts)
read_more part parts None is none rest = absurd (omega (arith, weigh_cons 1 no_weight part parts None is, none))
read_more part parts (Some n) is none rest =
    let later = rest (omega (arith, weigh_cons 1 no_weight part parts (Some n) is, none)) in
    record {
      numbers = n ∷ later.numbers;
      are = ap (λ first. with_first first (numbers_in parts)) is ∙ ap (with_first (Some n)) later.are;
      adds = omega (
        arith,
        ints,
        sum_of-cons n later.numbers,
        later.adds,
        up_to_sign n,
        weigh_cons 0 below_zero part parts (Some n) is,
        weigh_cons 0 above_zero part parts (Some n) is,
      );
    }

read : (parts : List Value) → others_in parts ≡ 0 → IsRead parts
read [] none = record { numbers = []; are = refl; adds = omega (arith, ints) }
read (part ∷ parts) none = read_more part parts (as_int part) refl none (read parts)

as_seq-seq : (parts : List Value) → as_seq (seq parts) ≡ Some parts
as_seq-seq parts = simp out-roll-Value refl

pub sum_folded : (total : ℤ) (size : ℕ) (parts : List Value) → IsSumOf total size parts → fold_of SumSeq parts ≡ option_map int (in_word total)
sum_folded total size parts stands =
    let found = read parts stands.numbers in
    let same : sum_of found.numbers ≡ total = omega (arith, ints, found.adds, stands.adds) in
    ap (λ items. option_map int (option_and_then (λ numbers. in_word (sum_of numbers)) (option_and_then numbers_in items))) (as_seq-seq parts)
    ∙ ap (λ numbers. option_map int (option_and_then (λ numbers. in_word (sum_of numbers)) numbers)) found.are
    ∙ ap (λ n. option_map int (in_word n)) same

-- ---- counts

pub count_folded : (size : ℕ) (parts : List Value) → size ≡ length parts → fold_of CountSeq parts ≡ Some (int (pos size))
count_folded size parts counts =
    ap (option_map (λ items. int (pos (length items)))) (as_seq-seq parts) ∙ ap (λ n. Some (int (pos n))) (sym counts)

-- ---- the greatest

-- the greatest of some numbers, if there are any
abbrev greatest_in : List ℤ → Option ℤ
greatest_in [] = None
greatest_in (n ∷ numbers) = greater_of (Some n) (greatest_in numbers)

max_assoc : (a b c : ℤ) → int_max (int_max a b) c ≡ int_max a (int_max b c)
max_assoc a b c = grind (arith, ints)

greater_assoc : (a b : ℤ) (o : Option ℤ) → greater_of (Some (int_max a b)) o ≡ greater_of (Some a) (greater_of (Some b) o)
greater_assoc a b None = refl
greater_assoc a b (Some c) = ap Some (max_assoc a b c)

folded_greatest : (n : ℤ) (numbers : List ℤ) → Some (fold int_max n numbers) ≡ greater_of (Some n) (greatest_in numbers)
folded_greatest n [] = refl
folded_greatest n (m ∷ numbers) = folded_greatest (int_max n m) numbers ∙ greater_assoc n m (greatest_in numbers)

greatest_value : (numbers : List ℤ) → greatest_of numbers ≡ value_of (greatest_in numbers)
greatest_value [] = refl
greatest_value (n ∷ numbers) = ap value_of (folded_greatest n numbers)

reached_by_max : (bound a b : ℤ) → int_le bound (int_max a b) ≡ (int_le bound a || int_le bound b)
reached_by_max bound a b = grind (arith, ints)

or_false : (b : Bool) → (b || false) ≡ b
or_false true = refl
or_false false = refl

pub is_reached-greater_of : (bound : ℤ) (a b : Option ℤ) → is_reached bound (greater_of a b) ≡ (is_reached bound a || is_reached bound b)
is_reached-greater_of bound None b = refl
is_reached-greater_of bound (Some a) None = sym (or_false (int_le bound a))
is_reached-greater_of bound (Some a) (Some b) = reached_by_max bound a b

pub some_of_two : (a b : ℕ) → nat_lt 0 (a + b) ≡ (nat_lt 0 a || nat_lt 0 b)
some_of_two a b = grind (arith, nat_tests)

pub reached_once : (bound n : ℤ) → nat_lt 0 (one_if_reached bound n) ≡ int_le bound n
reached_once bound n = by (int_le bound n)
  where
    by : (b : Bool) → nat_lt 0 (cond b 1 0) ≡ b
    by true = refl
    by false = refl

record IsReadMax (parts : List Value) : Type 0 where
  numbers : List ℤ
  are : numbers_in parts ≡ Some numbers
  reached : (bound : ℤ) → nat_lt 0 (reaching bound parts) ≡ is_reached bound (greatest_in numbers)

read_max_more : (part : Value) (parts : List Value) (found : Option ℤ) → as_int part ≡ found → others_in (part ∷ parts) ≡ 0
    → (others_in parts ≡ 0 → IsReadMax parts) → IsReadMax (part ∷ parts)
read_max_more part parts None is none rest = absurd (omega (arith, weigh_cons 1 no_weight part parts None is, none))
read_max_more part parts (Some n) is none rest =
    let later = rest (omega (arith, weigh_cons 1 no_weight part parts (Some n) is, none)) in
    record {
      numbers = n ∷ later.numbers;
      are = ap (λ first. with_first first (numbers_in parts)) is ∙ ap (with_first (Some n)) later.are;
      reached = λ bound.
          ap (nat_lt 0) (weigh_cons 0 (one_if_reached bound) part parts (Some n) is)
          ∙ some_of_two (one_if_reached bound n) (reaching bound parts)
          ∙ ap (λ b. b || nat_lt 0 (reaching bound parts)) (reached_once bound n)
          ∙ ap (λ b. int_le bound n || b) (later.reached bound)
          ∙ sym (is_reached-greater_of bound (Some n) (greatest_in later.numbers));
    }

read_max : (parts : List Value) → others_in parts ≡ 0 → IsReadMax parts
read_max [] none = record { numbers = []; are = refl; reached = λ bound. refl }
read_max (part ∷ parts) none = read_max_more part parts (as_int part) refl none (read_max parts)

le_itself : (n : ℤ) → int_le n n ≡ true
le_itself n = grind (arith, ints)

le_both : (a b : ℤ) → int_le a b ≡ true → int_le b a ≡ true → a ≡ b
le_both a b e f = grind (arith, ints)

-- what just the same bounds are reached by is the same
reached_alike : (a b : Option ℤ) → ((bound : ℤ) → is_reached bound a ≡ is_reached bound b) → a ≡ b
reached_alike None None same = refl
reached_alike None (Some b) same = absurd (false≢true (same b ∙ le_itself b))
reached_alike (Some a) None same = absurd (false≢true (sym (same a) ∙ le_itself a))
reached_alike (Some a) (Some b) same = ap Some (le_both a b (sym (same a) ∙ le_itself a) (same b ∙ le_itself b))

pub max_folded : (greatest : Option ℤ) (size : ℕ) (parts : List Value) → IsMaxOf greatest size parts → fold_of MaxSeq parts ≡ Some (value_of greatest)
max_folded greatest size parts stands =
    let found = read_max parts stands.numbers in
    let same : greatest_in found.numbers ≡ greatest =
    reached_alike (greatest_in found.numbers) greatest (λ bound. sym (found.reached bound) ∙ stands.reached bound) in
    ap (λ items. option_map greatest_of (option_and_then numbers_in items)) (as_seq-seq parts)
    ∙ ap (option_map greatest_of) found.are
    ∙ ap Some (greatest_value found.numbers ∙ ap value_of same)
