-- Numbers put in order, each once.
use Rattle.std.proofs.Common.{◌≡◌, ℕ, ◌+◌, ◌<◌, ◌≤◌, Bool, true, false, List, [], ◌∷◌, length, fold, refl, sym, ap, ◌∙◌, arith}
use Rattle.std.specs.Prelude.{◌||◌, nat_lt, if◌then◌else◌}
use Rattle.std.specs.List.{list_any, AllByRecursion}
use Rattle.std.proofs.Math.Bool.{or_assoc}
use Rattle.std.proofs.lemmas.Bool.Decides.{nat_tests}
use Rattle.trigger_algebra.specs.Staircases.{insert_count, rising}
use Rattle.trigger_algebra.proofs.Lists.{or_swap, or_again}

abbrev pub AreAbove : ℕ → List ℕ → Type 0
AreAbove n ns = AllByRecursion (λ m. n < m) ns

-- each of these numbers is less than those after it
abbrev pub Rises : List ℕ → Type 0
Rises [] = Unit {0}
Rises (n ∷ ns) = AreAbove n ns × Rises ns

pub above_less : (m n : ℕ) (ns : List ℕ) → m < n → AreAbove n ns → AreAbove m ns
above_less m n [] less above = tt
above_less m n (k ∷ ns) less above = (omega (arith, above.0), above_less m n ns less above.1)

lt_is : (m n : ℕ) → nat_lt m n ≡ true → m < n
lt_is m n is = grind (arith, nat_tests)

neither_less : (m n : ℕ) → nat_lt m n ≡ false → nat_lt n m ≡ false → m ≡ n
neither_less m n e f = grind (arith, nat_tests)

-- a property of all of the list that is inserted into
module _ (P : ℕ → Type 0) where
  pub each_inserted : (count : ℕ) (ns : List ℕ) → P count → AllByRecursion P ns → AllByRecursion P (insert_count count ns)
  each_inserted count [] here each = (here, tt)
  each_inserted count (n ∷ ns) here each = by_tests (nat_lt count n) (nat_lt n count) (each_inserted count ns here each.1)
    where
      by_tests : (before after : Bool) → AllByRecursion P (insert_count count ns)
          → AllByRecursion P (if before then count ∷ n ∷ ns else (if after then n ∷ insert_count count ns else n ∷ ns))
      by_tests true after rest = (here, each)
      by_tests false true rest = (each.0, rest)
      by_tests false false rest = each

  each_folded : (counts ns : List ℕ) → AllByRecursion P counts → AllByRecursion P ns → AllByRecursion P (fold (λ some count. insert_count count some) ns counts)
  each_folded [] ns each others = others
  each_folded (count ∷ counts) ns each others = each_folded counts (insert_count count ns) each.1 (each_inserted count ns each.0 others)

  pub each_risen : (counts : List ℕ) → AllByRecursion P counts → AllByRecursion P (rising counts)
  each_risen counts each = each_folded counts [] each tt

inserted_rises : (count : ℕ) (ns : List ℕ) → Rises ns → Rises (insert_count count ns)
inserted_rises count [] up = (tt, tt)
inserted_rises count (n ∷ ns) up = by_tests (nat_lt count n) (nat_lt n count) refl refl (inserted_rises count ns up.1)
  where
    by_tests : (before after : Bool) → nat_lt count n ≡ before → nat_lt n count ≡ after → Rises (insert_count count ns)
        → Rises (if before then count ∷ n ∷ ns else (if after then n ∷ insert_count count ns else n ∷ ns))
    by_tests true after e f rest = let less = lt_is count n e in ((less, above_less count n ns less up.0), up)
    by_tests false true e f rest = (each_inserted (λ m. n < m) count ns (lt_is n count f) up.0, rest)
    by_tests false false e f rest = up

folded_rises : (counts ns : List ℕ) → Rises ns → Rises (fold (λ some count. insert_count count some) ns counts)
folded_rises [] ns up = up
folded_rises (count ∷ counts) ns up = folded_rises counts (insert_count count ns) (inserted_rises count ns up)

pub rising_rises : (counts : List ℕ) → Rises (rising counts)
rising_rises counts = folded_rises counts [] tt

any_inserted : (p : ℕ → Bool) (count : ℕ) (ns : List ℕ) → list_any p (insert_count count ns) ≡ (p count || list_any p ns)
any_inserted p count [] = refl
any_inserted p count (n ∷ ns) = by_tests (nat_lt count n) (nat_lt n count) refl refl (any_inserted p count ns)
  where
    by_tests : (before after : Bool) → nat_lt count n ≡ before → nat_lt n count ≡ after → list_any p (insert_count count ns) ≡ (p count || list_any p ns)
        → list_any p (if before then count ∷ n ∷ ns else (if after then n ∷ insert_count count ns else n ∷ ns)) ≡ (p count || (p n || list_any p ns))
    by_tests true after e f rest = refl
    by_tests false true e f rest = ap (λ t. p n || t) rest ∙ or_swap (p n) (p count) (list_any p ns)
    by_tests false false e f rest =
        sym (or_again (p n) (list_any p ns)) ∙ ap (λ k. p k || (p n || list_any p ns)) (sym (neither_less count n e f))

any_folded : (p : ℕ → Bool) (counts ns : List ℕ) → list_any p (fold (λ some count. insert_count count some) ns counts) ≡ (list_any p counts || list_any p ns)
any_folded p [] ns = refl
any_folded p (count ∷ counts) ns =
    any_folded p counts (insert_count count ns)
    ∙ ap (λ t. list_any p counts || t) (any_inserted p count ns)
    ∙ or_swap (list_any p counts) (p count) (list_any p ns)
    ∙ sym (or_assoc (p count) (list_any p counts) (list_any p ns))

pub any_risen : (p : ℕ → Bool) (counts : List ℕ) → list_any p (rising counts) ≡ list_any p counts
any_risen p counts = any_folded p counts [] ∙ none_else (list_any p counts)
  where
    none_else : (t : Bool) → (t || false) ≡ t
    none_else true = refl
    none_else false = refl

length-inserted : (count : ℕ) (ns : List ℕ) → length (insert_count count ns) ≤ length ns + 1
length-inserted count [] = omega arith
length-inserted count (n ∷ ns) = by_tests (nat_lt count n) (nat_lt n count) (length-inserted count ns)
  where
    by_tests : (before after : Bool) → length (insert_count count ns) ≤ length ns + 1
        → length (if before then count ∷ n ∷ ns else (if after then n ∷ insert_count count ns else n ∷ ns)) ≤ length (n ∷ ns) + 1
    by_tests true after rest = omega arith
    by_tests false true rest = omega arith
    by_tests false false rest = omega arith

length-folded : (counts ns : List ℕ) → length (fold (λ some count. insert_count count some) ns counts) ≤ length counts + length ns
length-folded [] ns = omega arith
length-folded (count ∷ counts) ns = omega (arith, length-folded counts (insert_count count ns), length-inserted count ns)

pub length-rising : (counts : List ℕ) → length (rising counts) ≤ length counts
length-rising counts = omega (arith, length-folded counts [])
