-- Boxes at their places.
use Rattle.std.proofs.Common.{◌≡◌, ℕ, zero, suc, ◌<◌, ◌≤◌, ◌==◌, Bool, true, false, cond, ◌&&◌, List, [], ◌∷◌, length, get_or, Some, None, refl, ap, ◌∙◌, sym, subst, eqb-true, eq-eqb, true≢false, arith}
use Rattle.std.specs.Prelude.{find, position, slice_get, unwrap_or}
use Rattle.std.specs.List.{list_all, sum_by, position_or_len}
use Rattle.std.specs.Option.{option_map}
use Rattle.std.proofs.Math.ListN.{set, length-set}
use Rattle.std.proofs.lemmas.Bool.Decides.{nat_tests}
use Rattle.std.proofs.lemmas.List.Sums.{fails_before_first, sum_by-set, AllPass-from_list_all}
use Rattle.std.proofs.lemmas.List.Folds.{find_at, position_or_len-set}
use Rattle.std.proofs.lemmas.List.Elements.{All-get_or}
use Rattle.std.proofs.lemmas.List.Quantifiers.{position-Some}
use Rattle.beam_values.specs.declared.plan.FnKind.{FnKind}
use Rattle.beam_values.specs.declared.plan.SourceKind.{SourceKind}
use Rattle.beam_values.specs.declared.plan.StateKind.{StateKind}
use Rattle.dofn_traits.specs.Shelves.{Boxes, fn_number, fn_kinds, source_number, source_kinds, state_number, state_kinds, is_shelf_strict, HasEach, LacksOne, IsPlaced, is_first_strict, are_used_strict}
use Rattle.dofn_traits.proofs.Numberings.{IsNumbering}

-- the item at a place
item_there : {X : Type 0} (xs : List X) (k : ℕ) → k < length xs → (x : X) × (get_or xs k x ≡ x)
item_there [] k within = absurd (omega arith)
item_there (x ∷ xs) zero within = (x, refl)
item_there (x ∷ xs) (suc k) within = item_there xs k (omega arith)

got : {X : Type 0} (xs : List X) (k : ℕ) (d : X) → k < length xs → slice_get xs k ≡ Some (get_or xs k d)
got [] k d within = absurd (omega arith)
got (x ∷ xs) zero d within = refl
got (x ∷ xs) (suc k) d within = got xs k d (omega arith)

list_all_alike : {X : Type 0} (p q : X → Bool) → ((x : X) → p x ≡ q x) → (xs : List X) → list_all p xs ≡ list_all q xs
list_all_alike p q same [] = refl
list_all_alike p q same (x ∷ xs) = let rest = list_all_alike p q same xs in let first = same x in cc

-- what is found shows alike after an item is changed into one that passes alike and shows alike
find_alike : {X Y : Type 0} (p : X → Bool) (f : X → Y) (xs : List X) (i : ℕ) (y d : X) → p y ≡ p (get_or xs i d) → f y ≡ f (get_or xs i d)
    → option_map f (find p (set xs i y)) ≡ option_map f (find p xs)
find_alike p f [] i y d passes shows = refl
find_alike p f (x ∷ xs) zero y d passes shows = rw passes (by_test (p x))
  where
    by_test : (first : Bool) → option_map f (cond first (Some y) (find p xs)) ≡ option_map f (cond first (Some x) (find p xs))
    by_test true = ap Some shows
    by_test false = refl
find_alike p f (x ∷ xs) (suc i) y d passes shows = by_test (p x) (find_alike p f xs i y d passes shows)
  where
    by_test : (first : Bool) → option_map f (find p (set xs i y)) ≡ option_map f (find p xs)
        → option_map f (cond first (Some x) (find p (set xs i y))) ≡ option_map f (cond first (Some x) (find p xs))
    by_test true rest = refl
    by_test false rest = rest

-- a sum is the same after an item is changed into one of the same weight
pub sum_kept : {X : Type 0} (f : X → ℕ) (xs : List X) (i : ℕ) (x y : X) → i < length xs → x ≡ get_or xs i x → f y ≡ f x → sum_by f (set xs i y) ≡ sum_by f xs
sum_kept f xs i x y within read same =
    let read_weight : f x ≡ f (get_or xs i x) = ap f read in
    omega (arith, sum_by-set f xs i y x within)

three_parts : (a b c : Bool) → (a && b && c) ≡ true → (a ≡ true) × (b ≡ true) × (c ≡ true)
three_parts true true c all = (refl, refl, all)
three_parts true false c all = absurd cc
three_parts false b c all = absurd cc

-- the boxes of each sort that a strict shelf uses are strict
pub parts_strict : {D S T : Type 0} (fn_work : D → FnKind) (fn_strict : D → Bool) (split_work : S → SourceKind) (split_strict : S → Bool) (state_work : T → StateKind)
    (state_strict : T → Bool) (inside shelf : Boxes D S T) → inside ≡ shelf
    → is_shelf_strict fn_work fn_strict split_work split_strict state_work state_strict shelf ≡ true
    → (are_used_strict fn_number fn_kinds fn_work fn_strict inside.fns ≡ true)
    × (are_used_strict source_number source_kinds split_work split_strict inside.splits ≡ true)
    × (are_used_strict state_number state_kinds state_work state_strict inside.states ≡ true)
parts_strict fn_work fn_strict split_work split_strict state_work state_strict inside shelf same strict =
    three_parts (are_used_strict fn_number fn_kinds fn_work fn_strict inside.fns) (are_used_strict source_number source_kinds split_work split_strict inside.splits)
    (are_used_strict state_number state_kinds state_work state_strict inside.states)
    (ap (is_shelf_strict fn_work fn_strict split_work split_strict state_work state_strict) same ∙ strict)

module _ {K X : Type 0} (number : K → ℕ) (kinds : List K) (any : K) (work : X → K) (is : IsNumbering number kinds any) where
  -- kinds of one number are one
  same_kind : (a b : K) → number a ≡ number b → a ≡ b
  same_kind a b same = sym (is.listed a) ∙ ap (λ n. get_or kinds n any) same ∙ is.listed b

  abbrev numbered : X → ℕ
  numbered box = number (work box)

  -- the place of a kind is that of a box of it
  pub box_at : (boxes : List X) (places : List ℕ) (kind : K) → IsPlaced numbered (length kinds) boxes places
      → (get_or places (number kind) 0 < length boxes) × ((d : X) → work (get_or boxes (get_or places (number kind) 0) d) ≡ kind)
  box_at boxes places kind placed =
      let at : position (λ box. numbered box == number kind) boxes ≡ Some (get_or places (number kind) 0) = placed.placed (number kind) (is.within kind) in
      let within : get_or places (number kind) 0 < length boxes = grind (arith, nat_tests) in
      (within, λ d. same_kind _ _ (eqb-true _ _ (position-Some (λ box. numbered box == number kind) boxes (get_or places (number kind) 0) d at).1))

  pub has_each : (boxes : List X) (places : List ℕ) → IsPlaced numbered (length kinds) boxes places → HasEach work boxes
  has_each boxes places placed = λ kind.
      let at = box_at boxes places kind placed in
      let last = item_there boxes (get_or places (number kind) 0) at.0 in
      (get_or places (number kind) 0, last.0, at.0, last.1, ap work (sym last.1) ∙ at.1 last.0)

  pub lacks_one : (boxes : List X) (n : ℕ) → n < length kinds → None ≡ position (λ box. numbered box == n) boxes → LacksOne work boxes
  lacks_one boxes n below none =
      let past : length boxes ≤ position_or_len (λ box. numbered box == n) boxes = grind (arith, nat_tests) in (
        get_or kinds n any,
        λ k d within same.
            let fails : (numbered (get_or boxes k d) == n) ≡ false = fails_before_first (λ box. numbered box == n) boxes k d (omega arith) in
            let passes : numbered (get_or boxes k d) ≡ n = ap number same ∙ is.numbered n below in
            true≢false (sym (eq-eqb _ _ passes) ∙ fails),
      )

  pub found : (boxes : List X) (places : List ℕ) (kind : K) (n : ℕ) (box : X) → IsPlaced numbered (length kinds) boxes places → n ≡ number kind
      → box ≡ get_or boxes (get_or places n 0) box → (work box ≡ kind) × (get_or places n 0 < length boxes)
  found boxes places kind n box placed numbers read =
      let at = box_at boxes places kind placed in
      (ap work read ∙ ap (λ n. work (get_or boxes (get_or places n 0) box)) numbers ∙ at.1 box, rw numbers at.0)

  -- where all boxes that are used are strict, it is
  pub used_is_strict : (strict : X → Bool) (boxes : List X) (places : List ℕ) (kind : K) (n : ℕ) (box : X) → IsPlaced numbered (length kinds) boxes places
      → n ≡ number kind → box ≡ get_or boxes (get_or places n 0) box → are_used_strict number kinds work strict boxes ≡ true → strict box ≡ true
  used_is_strict strict boxes places kind n box placed numbers read all =
      let at : position (λ box. numbered box == number kind) boxes ≡ Some (get_or places (number kind) 0) = placed.placed (number kind) (is.within kind) in
      let within : get_or places (number kind) 0 < length boxes = grind (arith, nat_tests) in
      let first : position_or_len (λ box. numbered box == number kind) boxes ≡ get_or places (number kind) 0 = grind (arith, nat_tests) in
      let same : get_or boxes (get_or places (number kind) 0) box ≡ box = ap (λ n. get_or boxes (get_or places n 0) box) (sym numbers) ∙ sym read in
      let found : find (λ box. numbered box == number kind) boxes ≡ Some box =
      find_at (λ box. numbered box == number kind) boxes ∙ ap (slice_get boxes) first ∙ got boxes (get_or places (number kind) 0) box within ∙ ap Some same in
      let listed = All-get_or (λ kind. is_first_strict numbered strict boxes (number kind) ≡ true) kinds (number kind) any (is.within kind)
      (AllPass-from_list_all (λ kind. is_first_strict numbered strict boxes (number kind)) kinds all) in
      let passes = subst (λ kind. is_first_strict numbered strict boxes (number kind) ≡ true) (is.listed kind) listed in
      ap (λ box. unwrap_or (option_map strict box) true) (sym found) ∙ passes

  -- a box that changes, and keeps its work and its strictness
  pub strictness_kept : (strict : X → Bool) (boxes : List X) (at : ℕ) (box new : X) → box ≡ get_or boxes at box
      → work new ≡ work box → strict new ≡ strict box
      → are_used_strict number kinds work strict (set boxes at new) ≡ are_used_strict number kinds work strict boxes
  strictness_kept strict boxes at box new read same_work same_strict =
      list_all_alike _ _ (λ kind. ap (λ found. unwrap_or found true)
      (find_alike (λ box. numbered box == number kind) strict boxes at new box
      (ap (λ it. number it == number kind) (same_work ∙ ap work read)) (same_strict ∙ ap strict read))) kinds

  pub places_kept : (boxes : List X) (places : List ℕ) (count at : ℕ) (box new : X) → box ≡ get_or boxes at box → work new ≡ work box
      → IsPlaced numbered count boxes places → IsPlaced numbered count (set boxes at new) places
  places_kept boxes places count at box new read same_work placed = record {
    size = placed.size;
    placed = λ n below.
        let first : position_or_len (λ box. numbered box == n) (set boxes at new) ≡ position_or_len (λ box. numbered box == n) boxes =
        position_or_len-set (λ box. numbered box == n) boxes at new box (ap (λ it. number it == n) (same_work ∙ ap work read)) in
        let size : length (set boxes at new) ≡ length boxes = length-set boxes at new in
        let there : position (λ box. numbered box == n) boxes ≡ Some (get_or places n 0) = placed.placed n below in
        rw (first, size) there;
  }

  pub place_within : (boxes : List X) (places : List ℕ) (count n : ℕ) → n < count → IsPlaced numbered count boxes places → get_or places n 0 < length boxes
  place_within boxes places count n below placed =
      let there : position (λ box. numbered box == n) boxes ≡ Some (get_or places n 0) = placed.placed n below in
      grind (arith, nat_tests)
