-- Induction over trees, and what each definition says of each form of tree.
use Rattle.std.proofs.Common.{◌≡◌, ◌⊎◌, inl, inr, ℕ, ◌+◌, ℤ, max, Bool, List, [], ◌∷◌, map, fold, refl, sym, ap, subst, ◌∙◌, arith}
use Rattle.std.proofs.lemmas.Bool.Decides.{nat_tests}
use Rattle.std.specs.Prelude.{◌||◌, ◌&&◌, nat_le, int_le, true, false, IsTrue, if◌then◌else◌}
use Rattle.std.specs.List.{flat_map, list_all, list_any, AllByRecursion}
use Rattle.std.proofs.lemmas.List.Folds.{flat_map-map}
use Rattle.trigger_algebra.specs.declared.need.Need.TheVariants.{Always, From, Never}
use Rattle.trigger_algebra.specs.declared.when.When.{When}
use Rattle.trigger_algebra.specs.declared.when.When.TheVariants.{Count, MarkAt, First, All, rolls-Count, rolls-MarkAt, rolls-First, rolls-All}
use Rattle.trigger_algebra.specs.declared.when.When.TheOpen as layer
use Rattle.trigger_algebra.specs.declared.when.When.TheViews.{roll-When}
use Rattle.trigger_algebra.specs.declared.when.When.TheFolds.{fold-When, fold-roll-When, ind-When, map-When}
use Rattle.trigger_algebra.specs.Holding.{holds, holding_step}
use Rattle.trigger_algebra.specs.Refusing.{depth, depth_step, greatest_of, counts_of, counts_step, is_none_in, has_empty, emptiness_step, are_numbers_within, numbers_step}
use Rattle.trigger_algebra.specs.Staircases.{need_of, need_step, least, greatest}
use Rattle.trigger_algebra.proofs.Lists.{any_of_map, all_of_map}

pub tree_ind : (P : When → Type 0) → ((n : ℕ) → P (Count n)) → ((delay : ℤ) → P (MarkAt delay))
    → ((trees : List When) → AllByRecursion P trees → P (First trees)) → ((trees : List When) → AllByRecursion P trees → P (All trees)) → (when : When) → P when
tree_ind P count mark first all = ind-When P (λ x y is. subst (λ z. P (roll-When z)) is (step y))
  where
    trees_hold : (trees : List ((when : When) × P when)) → AllByRecursion P (map (λ e. e.0) trees)
    trees_hold [] = tt
    trees_hold (e ∷ trees) = (e.1, trees_hold trees)

    step : (y : layer.When-F ((when : When) × P when)) → P (roll-When (map-When ((when : When) × P when) When (λ e. e.0) y))
    step (layer.Count n) = subst P (sym (rolls-Count n)) (count n)
    step (layer.MarkAt delay) = subst P (sym (rolls-MarkAt delay)) (mark delay)
    step (layer.First trees) = subst P (sym (rolls-First (map (λ e. e.0) trees))) (first (map (λ e. e.0) trees) (trees_hold trees))
    step (layer.All trees) = subst P (sym (rolls-All (map (λ e. e.0) trees))) (all (map (λ e. e.0) trees) (trees_hold trees))

-- ---- folds

folded_count : {X : Type 0} (step : layer.When-F X → X) (n : ℕ) → fold-When X step (Count n) ≡ step (layer.Count n)
folded_count {X} step n = ap (fold-When X step) (sym (rolls-Count n)) ∙ fold-roll-When X step (layer.Count n)

folded_mark : {X : Type 0} (step : layer.When-F X → X) (delay : ℤ) → fold-When X step (MarkAt delay) ≡ step (layer.MarkAt delay)
folded_mark {X} step delay = ap (fold-When X step) (sym (rolls-MarkAt delay)) ∙ fold-roll-When X step (layer.MarkAt delay)

folded_first : {X : Type 0} (step : layer.When-F X → X) (trees : List When) → fold-When X step (First trees) ≡ step (layer.First (map (fold-When X step) trees))
folded_first {X} step trees = ap (fold-When X step) (sym (rolls-First trees)) ∙ fold-roll-When X step (layer.First trees)

folded_all : {X : Type 0} (step : layer.When-F X → X) (trees : List When) → fold-When X step (All trees) ≡ step (layer.All (map (fold-When X step) trees))
folded_all {X} step trees = ap (fold-When X step) (sym (rolls-All trees)) ∙ fold-roll-When X step (layer.All trees)

-- ---- when a tree holds

pub holds-Count : (n unseen : ℕ) (past : ℤ) → holds (Count n) unseen past ≡ nat_le n unseen
holds-Count n unseen past = folded_count (holding_step unseen past) n

pub holds-MarkAt : (delay : ℤ) (unseen : ℕ) (past : ℤ) → holds (MarkAt delay) unseen past ≡ int_le delay past
holds-MarkAt delay unseen past = folded_mark (holding_step unseen past) delay

pub holds-First : (trees : List When) (unseen : ℕ) (past : ℤ) → holds (First trees) unseen past ≡ list_any (λ tree. holds tree unseen past) trees
holds-First trees unseen past =
    folded_first (holding_step unseen past) trees ∙ any_of_map (λ (tree : Bool). tree) (fold-When Bool (holding_step unseen past)) trees

pub holds-All : (trees : List When) (unseen : ℕ) (past : ℤ) → holds (All trees) unseen past ≡ list_all (λ tree. holds tree unseen past) trees
holds-All trees unseen past =
    folded_all (holding_step unseen past) trees ∙ all_of_map (λ (tree : Bool). tree) (fold-When Bool (holding_step unseen past)) trees

-- ---- needs

pub need-Count : (n unseen : ℕ) → need_of (Count n) unseen ≡ (if nat_le n unseen then Always else Never)
need-Count n unseen = folded_count (need_step unseen) n

pub need-MarkAt : (delay : ℤ) (unseen : ℕ) → need_of (MarkAt delay) unseen ≡ From delay
need-MarkAt delay unseen = folded_mark (need_step unseen) delay

pub need-First : (trees : List When) (unseen : ℕ) → need_of (First trees) unseen ≡ fold least Never (map (λ tree. need_of tree unseen) trees)
need-First trees unseen = folded_first (need_step unseen) trees

pub need-All : (trees : List When) (unseen : ℕ) → need_of (All trees) unseen ≡ fold greatest Always (map (λ tree. need_of tree unseen) trees)
need-All trees unseen = folded_all (need_step unseen) trees

-- ---- leaves

pub counts-Count : (n : ℕ) → counts_of (Count n) ≡ n ∷ []
counts-Count n = folded_count counts_step n

pub counts-MarkAt : (delay : ℤ) → counts_of (MarkAt delay) ≡ 1 ∷ []
counts-MarkAt delay = folded_mark counts_step delay

pub counts-First : (trees : List When) → counts_of (First trees) ≡ flat_map counts_of trees
counts-First trees = folded_first counts_step trees ∙ flat_map-map (λ (some : List ℕ). some) counts_of trees

pub counts-All : (trees : List When) → counts_of (All trees) ≡ flat_map counts_of trees
counts-All trees = folded_all counts_step trees ∙ flat_map-map (λ (some : List ℕ). some) counts_of trees

-- ---- refusals

pub depth-First : (trees : List When) → depth (First trees) ≡ 1 + greatest_of (map depth trees)
depth-First trees = folded_first depth_step trees

pub depth-All : (trees : List When) → depth (All trees) ≡ 1 + greatest_of (map depth trees)
depth-All trees = folded_all depth_step trees

none_of_map : {X : Type 0} (h : When → X) (trees : List When) → is_none_in (map h trees) ≡ is_none_in trees
none_of_map h [] = refl
none_of_map h (tree ∷ trees) = refl

emptiness : (trees : List When) → (is_none_in (map has_empty trees) || list_any (λ (tree : Bool). tree) (map has_empty trees)) ≡ (is_none_in trees || list_any has_empty trees)
emptiness trees = rw (none_of_map has_empty trees, any_of_map (λ (tree : Bool). tree) has_empty trees) refl

pub empty-First : (trees : List When) → has_empty (First trees) ≡ (is_none_in trees || list_any has_empty trees)
empty-First trees = folded_first emptiness_step trees ∙ emptiness trees

pub empty-All : (trees : List When) → has_empty (All trees) ≡ (is_none_in trees || list_any has_empty trees)
empty-All trees = folded_all emptiness_step trees ∙ emptiness trees

pub numbers-Count : (least most : ℤ) (n : ℕ) → are_numbers_within least most (Count n) ≡ nat_le 1 n
numbers-Count least most n = folded_count (numbers_step least most) n

pub numbers-MarkAt : (least most delay : ℤ) → are_numbers_within least most (MarkAt delay) ≡ (int_le least delay && int_le delay most)
numbers-MarkAt least most delay = folded_mark (numbers_step least most) delay

pub numbers-First : (least most : ℤ) (trees : List When) → are_numbers_within least most (First trees) ≡ list_all (are_numbers_within least most) trees
numbers-First least most trees =
    folded_first (numbers_step least most) trees ∙ all_of_map (λ (tree : Bool). tree) (are_numbers_within least most) trees

pub numbers-All : (least most : ℤ) (trees : List When) → are_numbers_within least most (All trees) ≡ list_all (are_numbers_within least most) trees
numbers-All least most trees = folded_all (numbers_step least most) trees ∙ all_of_map (λ (tree : Bool). tree) (are_numbers_within least most) trees

-- ---- a list of trees, whichever it is

abbrev pub IsListOf : List When → When → Type 0
IsListOf trees when = (when ≡ First trees) ⊎ (when ≡ All trees)

pub counts_of_list : (trees : List When) (when : When) → IsListOf trees when → counts_of when ≡ flat_map counts_of trees
counts_of_list trees when (inl is) = ap counts_of is ∙ counts-First trees
counts_of_list trees when (inr is) = ap counts_of is ∙ counts-All trees

pub depth_of_list : (trees : List When) (when : When) → IsListOf trees when → depth when ≡ 1 + greatest_of (map depth trees)
depth_of_list trees when (inl is) = ap depth is ∙ depth-First trees
depth_of_list trees when (inr is) = ap depth is ∙ depth-All trees

pub empty_in_list : (trees : List When) (when : When) → IsListOf trees when → has_empty when ≡ (is_none_in trees || list_any has_empty trees)
empty_in_list trees when (inl is) = ap has_empty is ∙ empty-First trees
empty_in_list trees when (inr is) = ap has_empty is ∙ empty-All trees

pub numbers_in_list : (least most : ℤ) (trees : List When) (when : When) → IsListOf trees when
    → are_numbers_within least most when ≡ list_all (are_numbers_within least most) trees
numbers_in_list least most trees when (inl is) = ap (are_numbers_within least most) is ∙ numbers-First least most trees
numbers_in_list least most trees when (inr is) = ap (are_numbers_within least most) is ∙ numbers-All least most trees

pub no_empty_here : (trees : List When) (empty : Bool) → empty ≡ false → (trees ≡ [] → IsTrue empty) → is_none_in trees ≡ false
no_empty_here [] empty is h = let none = h refl in absurd cc
no_empty_here (tree ∷ trees) empty is h = refl

none_within : (most : ℕ) → nat_le 0 most ≡ true
none_within most = grind (arith, nat_tests)

max_within : (m n most : ℕ) → nat_le (max m n) most ≡ (nat_le m most && nat_le n most)
max_within m n most = grind (arith, nat_tests)

-- the deepest of some trees
pub depths_within : (trees : List When) (most : ℕ) → nat_le (greatest_of (map depth trees)) most ≡ list_all (λ tree. nat_le (depth tree) most) trees
depths_within [] most = none_within most
depths_within (tree ∷ trees) most = max_within (depth tree) (greatest_of (map depth trees)) most ∙ ap (λ rest. nat_le (depth tree) most && rest) (depths_within trees most)
