-- The numbers of items, one item more.
use Rattle.std.proofs.Common.{◌≡◌, ℕ, zero, suc, ◌+◌, ◌<◌, ℤ, ◌+ℤ◌, List, [], ◌∷◌, ◌++◌, length, take, get_or, Option, Some, None, refl, ap, ◌∙◌, sym, arith, add-one}
use Rattle.std.specs.Option.{option_map}
use Rattle.std.specs.List.{fold}
use Rattle.std.specs.Int.{int_max}
use Rattle.std.proofs.lemmas.List.Sums.{fold_push}
use Rattle.beam_values.specs.declared.value.Value.{Value}
use Rattle.beam_model.specs.Values.{null, int, as_int, with_first, numbers_in}
use Rattle.beam_model.specs.Functions.{sum_of, greatest_of}

abbrev pub pushed : ℤ → List ℤ → List ℤ
pushed n numbers = numbers ++ n ∷ []

first_pushed : (first : Option ℤ) (numbers : Option (List ℤ)) (n : ℤ) → with_first first (option_map (pushed n) numbers) ≡ option_map (pushed n) (with_first first numbers)
first_pushed None numbers n = refl
first_pushed (Some m) None n = refl
first_pushed (Some m) (Some numbers) n = refl

numbers_suc : (items : List Value) (i : ℕ) (d : Value) (n : ℤ) → i < length items → Some n ≡ as_int (get_or items i d)
    → numbers_in (take (suc i) items) ≡ option_map (pushed n) (numbers_in (take i items))
numbers_suc [] i d n within is = absurd (omega arith)
numbers_suc (item ∷ items) zero d n within is = ap (λ first. with_first first (Some [])) (sym is)
numbers_suc (item ∷ items) (suc i) d n within is =
    ap (with_first (as_int item)) (numbers_suc items i d n (omega arith) is) ∙ first_pushed (as_int item) (numbers_in (take i items)) n

pub numbers_more : (items : List Value) (i : ℕ) (d : Value) (n : ℤ) → i < length items → Some n ≡ as_int (get_or items i d)
    → numbers_in (take (i + 1) items) ≡ option_map (pushed n) (numbers_in (take i items))
numbers_more items i d n within is = rw add-one (numbers_suc items i d n within is)

-- where one item is no number
none_follows : (first : Option ℤ) → with_first first None ≡ None
none_follows None = refl
none_follows (Some n) = refl

pub no_numbers : (items : List Value) (i : ℕ) (d : Value) → i < length items → None ≡ as_int (get_or items i d) → numbers_in items ≡ None
no_numbers [] i d within is = absurd (omega arith)
no_numbers (item ∷ items) zero d within is = ap (λ first. with_first first (numbers_in items)) (sym is)
no_numbers (item ∷ items) (suc i) d within is = ap (with_first (as_int item)) (no_numbers items i d (omega arith) is) ∙ none_follows (as_int item)

pub sum_more : (numbers : Option (List ℤ)) (sum n : ℤ) → option_map sum_of numbers ≡ Some sum → option_map sum_of (option_map (pushed n) numbers) ≡ Some (sum +ℤ n)
sum_more None sum n is = cc
sum_more (Some numbers) sum n is =
    let same : sum_of numbers ≡ sum = cc in
    ap Some (fold_push (λ sum n. sum +ℤ n) _ numbers n ∙ ap (λ sum. sum +ℤ n) same)

-- the greatest so far, which is none before the first
abbrev pub greatest_so_far : List ℤ → Option ℤ
greatest_so_far [] = None
greatest_so_far (n ∷ numbers) = Some (fold int_max n numbers)

abbrev pub greater : Option ℤ → ℤ → ℤ
greater None n = n
greater (Some most) n = int_max most n

greatest_pushed : (numbers : List ℤ) (n : ℤ) → greatest_so_far (pushed n numbers) ≡ Some (greater (greatest_so_far numbers) n)
greatest_pushed [] n = refl
greatest_pushed (m ∷ numbers) n = ap Some (fold_push int_max m numbers n)

pub greatest_more : (numbers : Option (List ℤ)) (before : Option ℤ) (n : ℤ) → option_map greatest_so_far numbers ≡ Some before
    → option_map greatest_so_far (option_map (pushed n) numbers) ≡ Some (Some (greater before n))
greatest_more None before n is = cc
greatest_more (Some numbers) before n is =
    let same : greatest_so_far numbers ≡ before = cc in
    ap Some (greatest_pushed numbers n ∙ ap (λ most. Some (greater most n)) same)

-- it is the greatest of all
abbrev pub as_value : Option ℤ → Value
as_value None = null
as_value (Some n) = int n

value_of : (numbers : List ℤ) → greatest_of numbers ≡ as_value (greatest_so_far numbers)
value_of [] = refl
value_of (n ∷ numbers) = refl

pub greatest_is : (numbers : Option (List ℤ)) (most : Option ℤ) → option_map greatest_so_far numbers ≡ Some most → option_map greatest_of numbers ≡ Some (as_value most)
greatest_is None most is = cc
greatest_is (Some numbers) most is =
    let same : greatest_so_far numbers ≡ most = cc in
    ap Some (value_of numbers ∙ ap as_value same)
