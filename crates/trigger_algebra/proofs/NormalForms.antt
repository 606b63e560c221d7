-- Normal forms: what they meet, that checked plans allow them, and how many bars they have.
use Rattle.std.proofs.Common.{◌≡◌, ℕ, ◌≤◌, ◌<◌, ℤ, pos, Bool, true, false, Some, None, List, [], ◌∷◌, ◌++◌, length, refl, sym, ap, subst, ◌∙◌, arith}
use Rattle.std.specs.Prelude.{◌-ℤ◌, ◌&&◌, not, nat_le, if◌then◌else◌}
use Rattle.std.specs.List.{flat_map, list_all, AllByRecursion}
use Rattle.std.proofs.lemmas.Bool.{and_parts, and_from}
use Rattle.std.proofs.lemmas.Bool.Decides.{nat_tests}
use Rattle.std.proofs.lemmas.List.Concat.{flat_map-cons}
use Rattle.beam_values.specs.Checked.{are_bars_allowed, is_count}
use Rattle.beam_values.specs.Firing.{met}
use Rattle.beam_values.specs.Strategies.{greatest_length}
use Rattle.trigger_algebra.specs.declared.need.Need.TheVariants.{Never}
use Rattle.trigger_algebra.specs.declared.refusal.WhenRefusal.TheVariants.{Depth, Leaves, Number, Empty}
use Rattle.trigger_algebra.specs.declared.when.When.{When}
use Rattle.trigger_algebra.specs.Holding.{holds}
use Rattle.trigger_algebra.specs.Refusing.{are_numbers_within, counts_of, depth, has_empty, leaves, refusal_of}
use Rattle.trigger_algebra.specs.Staircases.{AreWords, need_of, normal_of, rising}
use Rattle.trigger_algebra.proofs.Lists.{any_same, everywhere}
use Rattle.trigger_algebra.proofs.Needs.{need_holds, need_within}
use Rattle.trigger_algebra.proofs.Reaching.{holds_at_leaves}
use Rattle.trigger_algebra.proofs.Rising.{each_risen, rising_rises, any_risen, length-rising}
use Rattle.trigger_algebra.proofs.Stairs.{meets_at, stairs_meet, stairs_rise, stairs_within, length-stairs}
use Rattle.trigger_algebra.proofs.Trees.{tree_ind, counts-Count, counts-MarkAt, counts-First, counts-All, numbers-Count, numbers-First, numbers-All}

no_empty : (shallow few empty numbers : Bool)
    → (if not shallow then Some Depth else (if not few then Some Leaves else (if empty then Some Empty else (if not numbers then Some Number else None)))) ≡ None
    → empty ≡ false
no_empty false few empty numbers e = absurd cc
no_empty true false empty numbers e = absurd cc
no_empty true true true numbers e = absurd cc
no_empty true true false numbers e = refl

pub normal_meets : (when : When) (unseen : ℕ) (past : ℤ) → refusal_of when ≡ None → 1 ≤ unseen → met (normal_of when) unseen past ≡ holds when unseen past
normal_meets when unseen past taken some =
    stairs_meet (need_of when) unseen past (rising (counts_of when)) Never (rising_rises (counts_of when)) refl
    ∙ any_risen (meets_at (need_of when) unseen past) (counts_of when)
    ∙ any_same (meets_at (need_of when) unseen past) (λ count. nat_le count unseen && holds when count past) (counts_of when)
    (everywhere (λ count. meets_at (need_of when) unseen past count ≡ (nat_le count unseen && holds when count past)) (counts_of when) (λ count. ap (λ t. nat_le count unseen && t) (need_holds count past when)))
    ∙ holds_at_leaves unseen past some when (no_empty (nat_le (depth when) 8) (nat_le (leaves when) 32) (has_empty when) (are_numbers_within (pos 0 -ℤ greatest_length) greatest_length when) taken)

pub length-normal : (when : When) → length (normal_of when) ≤ leaves when
length-normal when = omega (arith, length-stairs (need_of when) (rising (counts_of when)) Never, length-rising (counts_of when))

-- ---- bounds

each_appended : (P : ℕ → Type 0) (xs ys : List ℕ) → AllByRecursion P xs → AllByRecursion P ys → AllByRecursion P (xs ++ ys)
each_appended P [] ys each others = others
each_appended P (x ∷ xs) ys each others = (each.0, each_appended P xs ys each.1 others)

abbrev IsPositive : List ℕ → Type 0
IsPositive counts = AllByRecursion (λ count. 1 ≤ count) counts

le_is : (m n : ℕ) → nat_le m n ≡ true → m ≤ n
le_is m n e = grind (arith, nat_tests)

all_positive : (low high : ℤ) (trees : List When) → AllByRecursion (λ tree. are_numbers_within low high tree ≡ true → IsPositive (counts_of tree)) trees
    → list_all (are_numbers_within low high) trees ≡ true → IsPositive (flat_map counts_of trees)
all_positive low high [] each numbers = tt
all_positive low high (tree ∷ trees) each numbers =
    let parts = and_parts (are_numbers_within low high tree) (list_all (are_numbers_within low high) trees) numbers in
    subst IsPositive (sym (flat_map-cons counts_of tree trees))
    (each_appended (λ count. 1 ≤ count) (counts_of tree) (flat_map counts_of trees) (each.0 parts.0) (all_positive low high trees each.1 parts.1))

counts_positive : (low high : ℤ) (when : When) → are_numbers_within low high when ≡ true → IsPositive (counts_of when)
counts_positive low high =
    tree_ind (λ when. are_numbers_within low high when ≡ true → IsPositive (counts_of when))
    (λ n numbers. subst IsPositive (sym (counts-Count n)) (le_is 1 n (sym (numbers-Count low high n) ∙ numbers), tt))
    (λ delay numbers. subst IsPositive (sym (counts-MarkAt delay)) (omega arith, tt))
    (λ trees each numbers. subst IsPositive (sym (counts-First trees)) (all_positive low high trees each (sym (numbers-First low high trees) ∙ numbers)))
    (λ trees each numbers. subst IsPositive (sym (counts-All trees)) (all_positive low high trees each (sym (numbers-All low high trees) ∙ numbers)))

counted : (n : ℕ) → 1 ≤ n → n < 4294967296 → is_count n ≡ true
counted n low high = grind (arith, nat_tests)

all_counted : (counts : List ℕ) → IsPositive counts → AreWords counts → AllByRecursion (λ count. is_count count ≡ true) counts
all_counted [] positive words = tt
all_counted (count ∷ counts) positive words = (counted count positive.0 words.0, all_counted counts positive.1 words.1)

pub normal_allowed : (low high : ℤ) (when : When) → AreWords (rising (counts_of when)) → are_numbers_within low high when ≡ true → are_bars_allowed low high (normal_of when) ≡ true
normal_allowed low high when words numbers =
    let positive = each_risen (λ count. 1 ≤ count) (counts_of when) (counts_positive low high when numbers) in
    and_from _ _
    (stairs_within low high (need_of when) (rising (counts_of when)) Never (all_counted (rising (counts_of when)) positive words) (λ count. need_within low high count when numbers))
    (stairs_rise (need_of when) (rising (counts_of when)) Never None (rising_rises (counts_of when)) tt)
