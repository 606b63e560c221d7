-- Needs: a mark meets the need of a tree exactly where the tree holds.
use Rattle.std.proofs.Common.{◌≡◌, ℕ, ℤ, Bool, true, false, List, [], ◌∷◌, map, fold, refl, sym, ap, ◌∙◌, arith}
use Rattle.std.specs.Prelude.{◌||◌, ◌&&◌, nat_le, int_le, int_lt, if◌then◌else◌}
use Rattle.std.specs.List.{list_any, list_all, AllByRecursion}
use Rattle.std.proofs.Math.Bool.{or-true, or-false, and-true, and-false, or_assoc, and_assoc}
use Rattle.std.proofs.lemmas.Bool.{and_parts}
use Rattle.std.proofs.lemmas.Int.{ints}
use Rattle.trigger_algebra.specs.declared.need.Need.{Need}
use Rattle.trigger_algebra.specs.declared.need.Need.TheVariants.{Always, From, Never}
use Rattle.trigger_algebra.specs.declared.when.When.{When}
use Rattle.trigger_algebra.specs.Holding.{holds}
use Rattle.trigger_algebra.specs.Refusing.{are_numbers_within}
use Rattle.trigger_algebra.specs.Staircases.{is_less, least, greatest, need_of}
use Rattle.trigger_algebra.proofs.Lists.{any_of_map, all_of_map, any_same, all_same}
use Rattle.trigger_algebra.proofs.Trees.{tree_ind, holds-Count, holds-MarkAt, holds-First, holds-All, need-Count, need-MarkAt, need-First, need-All, numbers-MarkAt, numbers-First, numbers-All}

-- a mark so far past the window's end is enough
abbrev pub meets : ℤ → Need → Bool
meets past Always = true
meets past (From delay) = int_le delay past
meets past Never = false

lesser_met : (past delay other : ℤ) → int_lt other delay ≡ true → int_le other past ≡ (int_le delay past || int_le other past)
lesser_met past delay other is = grind (arith, ints)

no_lesser_met : (past delay other : ℤ) → int_lt other delay ≡ false → int_le delay past ≡ (int_le delay past || int_le other past)
no_lesser_met past delay other is = grind (arith, ints)

lesser : (past delay other : ℤ) (less : Bool) → int_lt other delay ≡ less → meets past (if less then From other else From delay) ≡ (int_le delay past || int_le other past)
lesser past delay other true is = lesser_met past delay other is
lesser past delay other false is = no_lesser_met past delay other is

greater_met : (past delay other : ℤ) → int_lt delay other ≡ true → int_le other past ≡ (int_le delay past && int_le other past)
greater_met past delay other is = grind (arith, ints)

no_greater_met : (past delay other : ℤ) → int_lt delay other ≡ false → int_le delay past ≡ (int_le delay past && int_le other past)
no_greater_met past delay other is = grind (arith, ints)

greater : (past delay other : ℤ) (less : Bool) → int_lt delay other ≡ less → meets past (if less then From other else From delay) ≡ (int_le delay past && int_le other past)
greater past delay other true is = greater_met past delay other is
greater past delay other false is = no_greater_met past delay other is

pub meets-least : (past : ℤ) (need other : Need) → meets past (least need other) ≡ (meets past need || meets past other)
meets-least past Always Always = refl
meets-least past Always (From delay) = refl
meets-least past Always Never = refl
meets-least past (From delay) Always = sym (or-true (int_le delay past))
meets-least past (From delay) (From other) = lesser past delay other (int_lt other delay) refl
meets-least past (From delay) Never = sym (or-false (int_le delay past))
meets-least past Never Always = refl
meets-least past Never (From delay) = refl
meets-least past Never Never = refl

pub meets-greatest : (past : ℤ) (need other : Need) → meets past (greatest need other) ≡ (meets past need && meets past other)
meets-greatest past Always Always = refl
meets-greatest past Always (From delay) = refl
meets-greatest past Always Never = refl
meets-greatest past (From delay) Always = sym (and-true (int_le delay past))
meets-greatest past (From delay) (From other) = greater past delay other (int_lt delay other) refl
meets-greatest past (From delay) Never = sym (and-false (int_le delay past))
meets-greatest past Never Always = refl
meets-greatest past Never (From delay) = refl
meets-greatest past Never Never = refl

meets-fold-least : (past : ℤ) (need : Need) (needs : List Need) → meets past (fold least need needs) ≡ (meets past need || list_any (meets past) needs)
meets-fold-least past need [] = sym (or-false (meets past need))
meets-fold-least past need (other ∷ needs) =
    meets-fold-least past (least need other) needs
    ∙ ap (λ t. t || list_any (meets past) needs) (meets-least past need other)
    ∙ or_assoc (meets past need) (meets past other) (list_any (meets past) needs)

meets-fold-greatest : (past : ℤ) (need : Need) (needs : List Need) → meets past (fold greatest need needs) ≡ (meets past need && list_all (meets past) needs)
meets-fold-greatest past need [] = sym (and-true (meets past need))
meets-fold-greatest past need (other ∷ needs) =
    meets-fold-greatest past (greatest need other) needs
    ∙ ap (λ t. t && list_all (meets past) needs) (meets-greatest past need other)
    ∙ and_assoc (meets past need) (meets past other) (list_all (meets past) needs)

count_meets : (past : ℤ) (t : Bool) → meets past (if t then Always else Never) ≡ t
count_meets past true = refl
count_meets past false = refl

pub need_holds : (unseen : ℕ) (past : ℤ) (when : When) → meets past (need_of when unseen) ≡ holds when unseen past
need_holds unseen past =
    tree_ind (λ when. meets past (need_of when unseen) ≡ holds when unseen past)
    (λ n. ap (meets past) (need-Count n unseen) ∙ count_meets past (nat_le n unseen) ∙ sym (holds-Count n unseen past))
    (λ delay. ap (meets past) (need-MarkAt delay unseen) ∙ sym (holds-MarkAt delay unseen past))
    (λ trees each.
    ap (meets past) (need-First trees unseen)
    ∙ meets-fold-least past Never (map (λ tree. need_of tree unseen) trees)
    ∙ any_of_map (meets past) (λ (tree : When). need_of tree unseen) trees
    ∙ any_same (λ (tree : When). meets past (need_of tree unseen)) (λ tree. holds tree unseen past) trees each
    ∙ sym (holds-First trees unseen past))
    (λ trees each.
    ap (meets past) (need-All trees unseen)
    ∙ meets-fold-greatest past Always (map (λ tree. need_of tree unseen) trees)
    ∙ all_of_map (meets past) (λ (tree : When). need_of tree unseen) trees
    ∙ all_same (λ (tree : When). meets past (need_of tree unseen)) (λ tree. holds tree unseen past) trees each
    ∙ sym (holds-All trees unseen past))

unmet_from : (past delay other : ℤ) → int_le other past ≡ false → int_lt delay other ≡ false → int_le delay past ≡ false
unmet_from past delay other unmet above = grind (arith, ints)

-- what is met by no mark so far is not met where it is no less
pub unmet_above : (past : ℤ) (need last : Need) → meets past last ≡ false → is_less need last ≡ false → meets past need ≡ false
unmet_above past need Always unmet above = absurd cc
unmet_above past Always (From delay) unmet above = absurd cc
unmet_above past (From delay) (From other) unmet above = unmet_from past delay other unmet above
unmet_above past Never (From delay) unmet above = refl
unmet_above past Always Never unmet above = absurd cc
unmet_above past (From delay) Never unmet above = absurd cc
unmet_above past Never Never unmet above = refl

-- ---- bounds

abbrev pub is_need_within : ℤ → ℤ → Need → Bool
is_need_within low high Always = true
is_need_within low high (From delay) = int_le low delay && int_le delay high
is_need_within low high Never = true

one_within : (low high : ℤ) (first : Bool) (need other : Need) → is_need_within low high need ≡ true → is_need_within low high other ≡ true
    → is_need_within low high (if first then other else need) ≡ true
one_within low high true need other e f = f
one_within low high false need other e f = e

least_within : (low high : ℤ) (need : Need) (trees : List When) (unseen : ℕ) → is_need_within low high need ≡ true
    → AllByRecursion (λ tree. are_numbers_within low high tree ≡ true → is_need_within low high (need_of tree unseen) ≡ true) trees
    → list_all (are_numbers_within low high) trees ≡ true → is_need_within low high (fold least need (map (λ tree. need_of tree unseen) trees)) ≡ true
least_within low high need [] unseen e each numbers = e
least_within low high need (tree ∷ trees) unseen e each numbers =
    least_within low high (least need (need_of tree unseen)) trees unseen
    (one_within low high (is_less (need_of tree unseen) need) need (need_of tree unseen) e (each.0 (and_parts _ _ numbers).0)) each.1 (and_parts _ _ numbers).1

greatest_within : (low high : ℤ) (need : Need) (trees : List When) (unseen : ℕ) → is_need_within low high need ≡ true
    → AllByRecursion (λ tree. are_numbers_within low high tree ≡ true → is_need_within low high (need_of tree unseen) ≡ true) trees
    → list_all (are_numbers_within low high) trees ≡ true → is_need_within low high (fold greatest need (map (λ tree. need_of tree unseen) trees)) ≡ true
greatest_within low high need [] unseen e each numbers = e
greatest_within low high need (tree ∷ trees) unseen e each numbers =
    greatest_within low high (greatest need (need_of tree unseen)) trees unseen
    (one_within low high (is_less need (need_of tree unseen)) need (need_of tree unseen) e (each.0 (and_parts _ _ numbers).0)) each.1 (and_parts _ _ numbers).1

pub need_within : (low high : ℤ) (unseen : ℕ) (when : When) → are_numbers_within low high when ≡ true → is_need_within low high (need_of when unseen) ≡ true
need_within low high unseen =
    tree_ind (λ when. are_numbers_within low high when ≡ true → is_need_within low high (need_of when unseen) ≡ true)
    (λ n numbers. ap (is_need_within low high) (need-Count n unseen) ∙ one_within low high (nat_le n unseen) Never Always refl refl)
    (λ delay numbers. ap (is_need_within low high) (need-MarkAt delay unseen) ∙ sym (numbers-MarkAt low high delay) ∙ numbers)
    (λ trees each numbers.
    ap (is_need_within low high) (need-First trees unseen) ∙ least_within low high Never trees unseen refl each (sym (numbers-First low high trees) ∙ numbers))
    (λ trees each numbers.
    ap (is_need_within low high) (need-All trees unseen) ∙ greatest_within low high Always trees unseen refl each (sym (numbers-All low high trees) ∙ numbers))
