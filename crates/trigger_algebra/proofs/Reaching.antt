-- Where a tree holds it holds with as few unseen as one of its leaves asks for, since only there its need falls.
use Rattle.std.proofs.Common.{◌≡◌, inl, inr, ℕ, ◌≤◌, ℤ, Bool, true, false, List, [], ◌∷◌, ◌++◌, refl, sym, ap, subst, ◌∙◌, arith}
use Rattle.std.specs.Prelude.{◌||◌, ◌&&◌, nat_le}
use Rattle.std.specs.List.{flat_map, list_any, list_all, AllByRecursion}
use Rattle.std.proofs.Math.Bool.{or-true}
use Rattle.std.proofs.lemmas.Bool.{and_parts, and_from, or_parts, cases_lt}
use Rattle.std.proofs.lemmas.Bool.Decides.{nat_tests}
use Rattle.std.proofs.lemmas.List.Concat.{flat_map-cons}
use Rattle.trigger_algebra.specs.declared.when.When.{When}
use Rattle.trigger_algebra.specs.Holding.{holds}
use Rattle.trigger_algebra.specs.Refusing.{counts_of, has_empty, is_none_in}
use Rattle.trigger_algebra.proofs.Lists.{IsIn, in_front, in_back, any_in, found, same_tests}
use Rattle.trigger_algebra.proofs.Trees.{tree_ind, holds-Count, holds-MarkAt, holds-First, holds-All, counts-Count, counts-MarkAt, counts-First, counts-All, empty-First, empty-All}

le_test : (m n : ℕ) → m ≤ n → nat_le m n ≡ true
le_test m n h = grind (arith, nat_tests)

le_is : (m n : ℕ) → nat_le m n ≡ true → m ≤ n
le_is m n e = grind (arith, nat_tests)

le_le : (k m n : ℕ) → m ≤ n → nat_le k m ≡ true → nat_le k n ≡ true
le_le k m n h e = grind (arith, nat_tests)

-- ---- with more unseen a tree still holds

module _ (few many : ℕ) (past : ℤ) (more : few ≤ many) where
  abbrev StillHolds : When → Type 0
  StillHolds when = holds when few past ≡ true → holds when many past ≡ true

  still_any : (trees : List When) → AllByRecursion StillHolds trees → list_any (λ tree. holds tree few past) trees ≡ true → list_any (λ tree. holds tree many past) trees ≡ true
  still_any [] each e = e
  still_any (tree ∷ trees) each e = by_test (holds tree few past) refl e (still_any trees each.1)
    where
      by_test : (here : Bool) → holds tree few past ≡ here → (here || list_any (λ t. holds t few past) trees) ≡ true
          → (list_any (λ t. holds t few past) trees ≡ true → list_any (λ t. holds t many past) trees ≡ true)
          → (holds tree many past || list_any (λ t. holds t many past) trees) ≡ true
      by_test true is e later = ap (λ t. t || list_any (λ t. holds t many past) trees) (each.0 is)
      by_test false is e later = ap (λ t. holds tree many past || t) (later e) ∙ or-true (holds tree many past)

  still_all : (trees : List When) → AllByRecursion StillHolds trees → list_all (λ tree. holds tree few past) trees ≡ true → list_all (λ tree. holds tree many past) trees ≡ true
  still_all [] each e = e
  still_all (tree ∷ trees) each e = let parts = and_parts _ _ e in and_from _ _ (each.0 parts.0) (still_all trees each.1 parts.1)

  pub still_holds : (when : When) → StillHolds when
  still_holds =
      tree_ind StillHolds
      (λ n e. holds-Count n many past ∙ le_le n few many more (sym (holds-Count n few past) ∙ e))
      (λ delay e. holds-MarkAt delay many past ∙ sym (holds-MarkAt delay few past) ∙ e)
      (λ trees each e. holds-First trees many past ∙ still_any trees each (sym (holds-First trees few past) ∙ e))
      (λ trees each e. holds-All trees many past ∙ still_all trees each (sym (holds-All trees few past) ∙ e))

still_all_hold : (few many : ℕ) (past : ℤ) (more : few ≤ many) (trees : List When) → list_all (λ tree. holds tree few past) trees ≡ true → list_all (λ tree. holds tree many past) trees ≡ true
still_all_hold few many past more [] e = e
still_all_hold few many past more (tree ∷ trees) e =
    let parts = and_parts _ _ e in and_from _ _ (still_holds few many past more tree parts.0) (still_all_hold few many past more trees parts.1)

-- ---- a count of a leaf from which on it holds

module _ (unseen : ℕ) (past : ℤ) (some : 1 ≤ unseen) where
  -- at one of these counts, which so many are enough for, a test passes
  abbrev Reached : List ℕ → (ℕ → Bool) → Type 0
  Reached counts test = (count : ℕ) × IsIn count counts × (count ≤ unseen) × (test count ≡ true)

  abbrev IsReached : When → Type 0
  IsReached when = has_empty when ≡ false → holds when unseen past ≡ true → Reached (counts_of when) (λ count. holds when count past)

  first_reached : (trees : List When) → AllByRecursion IsReached trees → list_any has_empty trees ≡ false → list_any (λ tree. holds tree unseen past) trees ≡ true
      → Reached (flat_map counts_of trees) (λ count. list_any (λ tree. holds tree count past) trees)
  first_reached [] each full e = absurd cc
  first_reached (tree ∷ trees) each full e =
      let parts = or_parts (has_empty tree) (list_any has_empty trees) full in
      by_test (holds tree unseen past) refl e parts.0 (first_reached trees each.1 parts.1)
    where
      by_test : (here : Bool) → holds tree unseen past ≡ here → (here || list_any (λ t. holds t unseen past) trees) ≡ true → has_empty tree ≡ false
          → (list_any (λ t. holds t unseen past) trees ≡ true → Reached (flat_map counts_of trees) (λ count. list_any (λ t. holds t count past) trees))
          → Reached (flat_map counts_of (tree ∷ trees)) (λ count. holds tree count past || list_any (λ t. holds t count past) trees)
      by_test true is e full later =
          let at = each.0 full is in
          (at.0, subst (IsIn at.0) (sym (flat_map-cons counts_of tree trees)) (in_front at.0 (counts_of tree) (flat_map counts_of trees) at.1), at.2, ap (λ t. t || list_any (λ t. holds t at.0 past) trees) at.3)
      by_test false is e full later =
          let at = later e in
          (at.0, subst (IsIn at.0) (sym (flat_map-cons counts_of tree trees)) (in_back at.0 (counts_of tree) (flat_map counts_of trees) at.1), at.2, ap (λ t. holds tree at.0 past || t) at.3 ∙ or-true (holds tree at.0 past))

  -- of several trees that all hold, at the greatest of the counts of each
  all_reached : (tree : When) (trees : List When) → IsReached tree → AllByRecursion IsReached trees → has_empty tree ≡ false → list_any has_empty trees ≡ false
      → holds tree unseen past ≡ true → list_all (λ tree. holds tree unseen past) trees ≡ true
      → Reached (counts_of tree ++ flat_map counts_of trees) (λ count. holds tree count past && list_all (λ tree. holds tree count past) trees)
  all_reached tree [] here each full others e f = let at = here full e in (at.0, in_front at.0 (counts_of tree) [] at.1, at.2, and_from _ _ at.3 refl)
  all_reached tree (next ∷ trees) here each full others e f =
      let parts = or_parts (has_empty next) (list_any has_empty trees) others in
      let held = and_parts _ _ f in
      joined (here full e) (all_reached next trees each.0 each.1 parts.0 parts.1 held.0 held.1)
    where
      joined : Reached (counts_of tree) (λ count. holds tree count past) → Reached (counts_of next ++ flat_map counts_of trees) (λ count. holds next count past && list_all (λ t. holds t count past) trees)
          → Reached (counts_of tree ++ flat_map counts_of (next ∷ trees)) (λ count. holds tree count past && (holds next count past && list_all (λ t. holds t count past) trees))
      joined one rest =
          let whole : IsIn rest.0 (flat_map counts_of (next ∷ trees)) = subst (IsIn rest.0) (sym (flat_map-cons counts_of next trees)) rest.1 in
          elim (cases_lt one.0 rest.0) [
            | inl less ↦ (rest.0, in_back rest.0 (counts_of tree) (flat_map counts_of (next ∷ trees)) whole, rest.2, and_from _ _ (still_holds one.0 rest.0 past (omega arith) tree one.3) rest.3)
            | inr not_less ↦ (one.0, in_front one.0 (counts_of tree) (flat_map counts_of (next ∷ trees)) one.1, one.2, and_from _ _ one.3 (still_all_hold rest.0 one.0 past not_less (next ∷ trees) rest.3))
          ]

  all_of_list : (trees : List When) → AllByRecursion IsReached trees → is_none_in trees ≡ false → list_any has_empty trees ≡ false → list_all (λ tree. holds tree unseen past) trees ≡ true
      → Reached (flat_map counts_of trees) (λ count. list_all (λ tree. holds tree count past) trees)
  all_of_list [] each filled full e = absurd cc
  all_of_list (tree ∷ trees) each filled full e =
      let parts = or_parts (has_empty tree) (list_any has_empty trees) full in
      let held = and_parts _ _ e in
      let at = all_reached tree trees each.0 each.1 parts.0 parts.1 held.0 held.1 in
      (at.0, subst (IsIn at.0) (sym (flat_map-cons counts_of tree trees)) at.1, at.2, at.3)

  pub is_reached : (when : When) → IsReached when
  is_reached =
      tree_ind IsReached
      (λ n full e.
      (n, subst (IsIn n) (sym (counts-Count n)) (inl refl), le_is n unseen (sym (holds-Count n unseen past) ∙ e), holds-Count n n past ∙ le_test n n (omega arith)))
      (λ delay full e. (1, subst (IsIn 1) (sym (counts-MarkAt delay)) (inl refl), some, holds-MarkAt delay 1 past ∙ sym (holds-MarkAt delay unseen past) ∙ e))
      (λ trees each full e.
      let parts = or_parts (is_none_in trees) (list_any has_empty trees) (sym (empty-First trees) ∙ full) in
      let at = first_reached trees each parts.1 (sym (holds-First trees unseen past) ∙ e) in
      (at.0, subst (IsIn at.0) (sym (counts-First trees)) at.1, at.2, holds-First trees at.0 past ∙ at.3))
      (λ trees each full e.
      let parts = or_parts (is_none_in trees) (list_any has_empty trees) (sym (empty-All trees) ∙ full) in
      let at = all_of_list trees each parts.0 parts.1 (sym (holds-All trees unseen past) ∙ e) in
      (at.0, subst (IsIn at.0) (sym (counts-All trees)) at.1, at.2, holds-All trees at.0 past ∙ at.3))

  -- it holds exactly where it does at the count of a leaf that so many are enough for
  pub holds_at_leaves : (when : When) → has_empty when ≡ false → list_any (λ count. nat_le count unseen && holds when count past) (counts_of when) ≡ holds when unseen past
  holds_at_leaves when full =
      same_tests (list_any (λ count. nat_le count unseen && holds when count past) (counts_of when)) (holds when unseen past)
      (λ e.
      let at = found (λ count. nat_le count unseen && holds when count past) (counts_of when) e in
      let parts = and_parts (nat_le at.0 unseen) (holds when at.0 past) at.1 in
      still_holds at.0 unseen past (le_is at.0 unseen parts.0) when parts.1)
      (λ e.
      let at = is_reached when full e in
      any_in (λ count. nat_le count unseen && holds when count past) at.0 (counts_of when) at.1 (and_from _ _ (le_test at.0 unseen at.2) at.3))
