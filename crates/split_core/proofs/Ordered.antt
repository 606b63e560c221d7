-- The order of pieces is total, and a piece that is put in leaves what ascends ascending.
use Rattle.std.proofs.Common.{◌≡◌, ℕ, zero, suc, ◌+◌, ◌-◌, ◌<◌, ◌≤◌, Bool, true, false, not, cond, List, [], ◌∷◌, ◌++◌, reverse, length, take, drop, get_or, ◌⊎◌, inl, inr, ◌≢◌, ◌↔◌, IsTrue, Result, Ok, Err, subst, append_assoc, refl, sym, ap, ◌∙◌, arith}
use Rattle.std.specs.declared.cmp.Ordering.TheVariants.{Less, Equal, Greater}
use Rattle.std.specs.declared.cmp.Ordering.{Ordering}
use Rattle.std.specs.Ordering.{is_lt, nat_cmp, ordering_then, ordering_index}
use Rattle.std.specs.Result.{is_err}
use Rattle.std.specs.Cmp.{IsTotalOrder, IsStrictWeakOrder}
use Rattle.std.specs.List.{All, AllWithin, insert}
use Rattle.std.specs.List.Sorted.{IsPartitionedBy, IsPartitionPoint, IsNonDecreasingBy, IsSearchInRange, IsBinarySearchResult}
use Rattle.std.proofs.lemmas.Cmp.{nat_cmp_total, int_cmp_total, on_total, then_total, tied_itself, ranked}
use Rattle.std.proofs.lemmas.Bool.Decides.{nat_tests}
use Rattle.std.proofs.lemmas.Bool.{false≢true}
use Rattle.std.proofs.lemmas.Bool.{cases_lt, not-true, not-false}
use Rattle.std.proofs.lemmas.List.{reverse-append, reverse-reverse, length-reverse, length-take-le, length-drop, get_or-take, get_or-drop, get_or-reverse, take-append-drop}
use Rattle.std.proofs.lemmas.List.Elements.{All-nil, All-cons, All-head, All-tail, All-same, All-weaker, All-get_or}
use Rattle.std.proofs.lemmas.List.Sorted.{ranks_by, All-permutation, IsPermutation-reverse}
use Rattle.std.proofs.lemmas.List.Sums.{fold-append}
use Rattle.beam_values.specs.Bags.{IsSameBag}
use Rattle.beam_values.proofs.Bags.{bag_refl, bag_trans, bag_cons, bag_middle}
use Rattle.beam_values.specs.declared.piece.Piece.{Piece}
use Rattle.split_core.specs.Front.{first_is_lower}
use Rattle.split_core.specs.Order.{piece_cmp, is_lower, with_piece, with_pieces, first_piece, IsAscending}

pub piece_total : IsTotalOrder piece_cmp
piece_total =
    then_total (on_total (λ (p : Piece). p.node) nat_cmp_total)
    (then_total (on_total (λ (p : Piece). p.item) nat_cmp_total)
    (then_total (on_total (λ (p : Piece). p.range.from) nat_cmp_total)
    (then_total (on_total (λ (p : Piece). p.range.to) nat_cmp_total)
    (then_total (on_total (λ (p : Piece). p.seen) int_cmp_total) (on_total (λ (p : Piece). p.attempts) nat_cmp_total)))))

lower_weak : IsStrictWeakOrder is_lower
lower_weak = ranks_by piece_total (λ (p : Piece). p)

-- what is lower than a piece is lower than what that one is lower than
pub lower_chain : (a b c : Piece) → is_lower a b ≡ true → is_lower b c ≡ true → is_lower a c ≡ true
lower_chain a b c ab bc = by_test (is_lower a c) refl
  where
    by_test : (t : Bool) → is_lower a c ≡ t → is_lower a c ≡ true
    by_test true e = e
    by_test false e = absurd (false≢true (sym (lower_weak.chain a c b e (lower_weak.one_way b c bc)) ∙ ab))

-- the two cases of a piece before which another is put
module _ (piece other : Piece) (others : List Piece) where
  pub with_piece-lower : is_lower other piece ≡ true → with_piece piece (other ∷ others) ≡ other ∷ with_piece piece others
  with_piece-lower e = ap (λ b. cond b (other ∷ with_piece piece others) (piece ∷ other ∷ others)) e

  pub with_piece-here : is_lower other piece ≡ false → with_piece piece (other ∷ others) ≡ piece ∷ other ∷ others
  with_piece-here e = ap (λ b. cond b (other ∷ with_piece piece others) (piece ∷ other ∷ others)) e

pub All-with_piece : (P : Piece → Type 0) (piece : Piece) (l : List Piece) → P piece → All P l → All P (with_piece piece l)
All-with_piece P piece [] h all = All-cons P piece [] h all
All-with_piece P piece (other ∷ others) h all = by_test (is_lower other piece) (All-with_piece P piece others h (All-tail P other others all))
  where
    by_test : (t : Bool) → All P (with_piece piece others) → All P (cond t (other ∷ with_piece piece others) (piece ∷ other ∷ others))
    by_test true behind = All-cons P other (with_piece piece others) (All-head P other others all) behind
    by_test false behind = All-cons P piece (other ∷ others) h all

-- what is put in is one more
pub bag_with_piece : (piece : Piece) (l : List Piece) → IsSameBag (with_piece piece l) (piece ∷ l)
bag_with_piece piece [] = bag_refl (piece ∷ [])
bag_with_piece piece (other ∷ others) = by_test (is_lower other piece) (bag_with_piece piece others)
  where
    by_test : (t : Bool) → IsSameBag (with_piece piece others) (piece ∷ others) → IsSameBag (cond t (other ∷ with_piece piece others) (piece ∷ other ∷ others)) (piece ∷ other ∷ others)
    by_test true behind =
        bag_trans (other ∷ with_piece piece others) (other ∷ piece ∷ others) (piece ∷ other ∷ others)
        (bag_cons other (with_piece piece others) (piece ∷ others) behind)
        (bag_middle (other ∷ []) piece others)
    by_test false behind = bag_refl (piece ∷ other ∷ others)

pub length-with_piece : (piece : Piece) (l : List Piece) → length (with_piece piece l) ≡ length l + 1
length-with_piece piece [] = omega arith
length-with_piece piece (other ∷ others) = by_test (is_lower other piece) (length-with_piece piece others)
  where
    by_test : (t : Bool) → length (with_piece piece others) ≡ length others + 1 → length (cond t (other ∷ with_piece piece others) (piece ∷ other ∷ others)) ≡ length (other ∷ others) + 1
    by_test true behind = omega arith
    by_test false behind = omega arith

pub ascending_with_piece : (piece : Piece) (l : List Piece) → IsAscending l → IsAscending (with_piece piece l)
ascending_with_piece piece [] up = (All-nil (λ q. is_lower q piece ≡ false), tt)
ascending_with_piece piece (other ∷ others) up = by_test (is_lower other piece) refl (ascending_with_piece piece others up.1)
  where
    by_test : (t : Bool) → is_lower other piece ≡ t → IsAscending (with_piece piece others) → IsAscending (cond t (other ∷ with_piece piece others) (piece ∷ other ∷ others))
    by_test true e behind =
        (All-with_piece (λ q. is_lower q other ≡ false) piece others (lower_weak.one_way other piece e) up.0, behind)
    by_test false e behind = (
      All-cons (λ q. is_lower q piece ≡ false) other others e
          (All-weaker (λ q. is_lower q other ≡ false) (λ q. is_lower q piece ≡ false) (λ q h. lower_weak.chain q other piece h e) others up.0),
      up,
    )

-- among pieces that are lower and others that are not, a piece goes between
pub with_piece-front : (piece : Piece) (l : List Piece) → first_is_lower piece l ≡ false → with_piece piece l ≡ piece ∷ l
with_piece-front piece [] e = refl
with_piece-front piece (other ∷ others) e = with_piece-here piece other others e

pub with_piece-behind : (piece : Piece) (xs ys : List Piece) → All (λ q. is_lower q piece ≡ true) xs → with_piece piece (xs ++ ys) ≡ xs ++ with_piece piece ys
with_piece-behind piece [] ys all = refl
with_piece-behind piece (x ∷ xs) ys all =
    with_piece-lower piece x (xs ++ ys) (All-head (λ q. is_lower q piece ≡ true) x xs all)
    ∙ ap (λ t. x ∷ t) (with_piece-behind piece xs ys (All-tail (λ q. is_lower q piece ≡ true) x xs all))

pub first_is_not_lower : (piece : Piece) (l : List Piece) → All (λ q. is_lower q piece ≡ false) l → first_is_lower piece l ≡ false
first_is_not_lower piece [] all = refl
first_is_not_lower piece (x ∷ xs) all = All-head (λ q. is_lower q piece ≡ false) x xs all

-- one more piece is put in behind the others
pub with_pieces-more : (pieces : List Piece) (piece : Piece) (l : List Piece) → with_pieces (pieces ++ piece ∷ []) l ≡ with_piece piece (with_pieces pieces l)
with_pieces-more pieces piece l = fold-append (λ held p. with_piece p held) l pieces (piece ∷ [])

pub ascending_with_pieces : (pieces l : List Piece) → IsAscending l → IsAscending (with_pieces pieces l)
ascending_with_pieces [] l up = up
ascending_with_pieces (p ∷ ps) l up = ascending_with_pieces ps (with_piece p l) (ascending_with_piece p l up)

-- of two places the later one has no lower piece
pub ascending_far : (l : List Piece) → IsAscending l → (i j : ℕ) (d : Piece) → i < j → j < length l → is_lower (get_or l j d) (get_or l i d) ≡ false
ascending_far [] up i j d below within = absurd (omega arith)
ascending_far (x ∷ xs) up zero zero d below within = absurd (omega arith)
ascending_far (x ∷ xs) up zero (suc j) d below within = All-get_or (λ q. is_lower q x ≡ false) xs j d (omega arith) up.0
ascending_far (x ∷ xs) up (suc i) zero d below within = absurd (omega arith)
ascending_far (x ∷ xs) up (suc i) (suc j) d below within = ascending_far xs up.1 i j d (omega arith) (omega arith)

module _ {X : Type 0} (P : X → Type 0) (xs : List X) (i : ℕ) where
  All-take_within : i ≤ length xs → AllWithin P xs 0 i → All P (take i xs)
  All-take_within inside all = λ k d below.
      let inside_too : k < i = omega (arith, length-take-le i xs inside) in
      subst P (sym (get_or-take i xs k d inside_too)) (all k d (omega arith) inside_too)

  All-drop_within : i ≤ length xs → AllWithin P xs i (length xs) → All P (drop i xs)
  All-drop_within inside all = λ k d below.
      subst P (sym (get_or-drop i xs k d)) (all (i + k) d (omega arith) (omega (arith, length-drop i xs)))

All-reverse : {X : Type 0} (P : X → Type 0) (xs : List X) → All P xs → All P (reverse xs)
All-reverse P xs all = All-permutation P xs (reverse xs) (IsPermutation-reverse xs) all

pub reverse-cons : {X : Type 0} (x : X) (xs : List X) → reverse (x ∷ xs) ≡ reverse xs ++ x ∷ []
reverse-cons x xs = reverse-append (x ∷ []) xs

pub reverse-push : {X : Type 0} (xs : List X) (x : X) → reverse (xs ++ x ∷ []) ≡ x ∷ reverse xs
reverse-push xs x = reverse-append xs (x ∷ [])

-- a piece goes between the items that are not lower and those that are
pub place_among : (items : List Piece) (piece : Piece) (i : ℕ) → i ≤ length items
    → IsPartitionPoint (λ y. not (is_lower y piece) ≡ true) (λ y. not (is_lower y piece) ≡ false) items i
    → reverse (insert items i piece) ≡ with_piece piece (reverse items)
place_among items piece i inside parts =
    let front = take i items in
    let back = drop i items in
    let high : All (λ y. is_lower y piece ≡ false) (reverse front) =
    All-reverse (λ y. is_lower y piece ≡ false) front (All-weaker (λ y. not (is_lower y piece) ≡ true) (λ y. is_lower y piece ≡ false) (λ y h. not-true (is_lower y piece) h) front (All-take_within (λ y. not (is_lower y piece) ≡ true) items i inside parts.0)) in
    let low : All (λ y. is_lower y piece ≡ true) (reverse back) =
    All-reverse (λ y. is_lower y piece ≡ true) back (All-weaker (λ y. not (is_lower y piece) ≡ false) (λ y. is_lower y piece ≡ true) (λ y h. not-false (is_lower y piece) h) back (All-drop_within (λ y. not (is_lower y piece) ≡ false) items i inside parts.1)) in
    let joined : reverse items ≡ reverse back ++ reverse front = ap reverse (sym (take-append-drop i items)) ∙ reverse-append front back in
    let put : reverse (insert items i piece) ≡ reverse back ++ piece ∷ reverse front =
    reverse-append front (piece ∷ back) ∙ ap (λ t. t ++ reverse front) (reverse-cons piece back) ∙ append_assoc (reverse back) (piece ∷ []) (reverse front) in
    put
    ∙ sym (ap (with_piece piece) joined ∙ with_piece-behind piece (reverse back) (reverse front) low
    ∙ ap (λ t. reverse back ++ t) (with_piece-front piece (reverse front) (first_is_not_lower piece (reverse front) high)))

reversed_at : {X : Type 0} (xs : List X) (i : ℕ) (d : X) → i < length xs → get_or xs i d ≡ get_or (reverse xs) (length xs - 1 - i) d
reversed_at xs i d inside =
    let back : length xs - 1 - (length xs - 1 - i) ≡ i = omega arith in
    sym (get_or-reverse xs (length xs - 1 - i) d (omega arith) ∙ ap (λ k. get_or xs k d) back)

-- of items whose reverse ascends the earlier one is not lower
pub descending_far : (items : List Piece) → IsAscending (reverse items) → (i j : ℕ) (d : Piece) → i < j → j < length items → is_lower (get_or items i d) (get_or items j d) ≡ false
descending_far items up i j d below within =
    ap (λ x. is_lower x (get_or items j d)) (reversed_at items i d (omega arith))
    ∙ ap (λ x. is_lower (get_or (reverse items) (length items - 1 - i) d) x) (reversed_at items j d within)
    ∙ ascending_far (reverse items) up (length items - 1 - j) (length items - 1 - i) d (omega arith) (omega (arith, length-reverse items))

-- those that are not lower than a piece stand in front
pub partitioned : (items : List Piece) (piece : Piece) → IsAscending (reverse items) → IsPartitionedBy (λ y. not (is_lower y piece)) items
partitioned items piece up i j d below within holds = by_place (cases_lt i j)
  where
    by_place : (i < j) ⊎ (j ≤ i) → not (is_lower (get_or items i d) piece) ≡ true
    by_place (inl before) =
        ap not (lower_weak.chain (get_or items i d) (get_or items j d) piece (descending_far items up i j d before within)
        (not-true (is_lower (get_or items j d) piece) holds))
    by_place (inr after) =
        let same : i ≡ j = omega arith in
        ap (λ k. not (is_lower (get_or items k d) piece)) same ∙ holds

-- a step that passes a lower item
pub pass_step : (piece last : Piece) (lower items rest : List Piece) → items ≡ rest ++ last ∷ [] → first_is_lower piece (reverse items) ≡ true
    → (lower ++ last ∷ []) ++ with_piece piece (reverse rest) ≡ lower ++ with_piece piece (reverse items)
pass_step piece last lower items rest e test =
    let turned : reverse items ≡ last ∷ reverse rest = ap reverse e ∙ reverse-push rest last in
    let low : is_lower last piece ≡ true = ap (first_is_lower piece) (sym turned) ∙ test in
    append_assoc lower (last ∷ []) (with_piece piece (reverse rest))
    ∙ ap (λ t. lower ++ t) (sym (ap (with_piece piece) turned ∙ with_piece-lower piece last (reverse rest) low))

-- the item that is passed is lower
pub passed_is_lower : (piece last : Piece) (items rest : List Piece) → items ≡ rest ++ last ∷ [] → first_is_lower piece (reverse items) ≡ true → is_lower last piece ≡ true
passed_is_lower piece last items rest e test =
    let turned : reverse items ≡ last ∷ reverse rest = ap reverse e ∙ reverse-push rest last in
    ap (first_is_lower piece) (sym turned) ∙ test

-- where no item is lower, the piece goes behind those that were passed
pub pass_end : (piece : Piece) (lower items : List Piece) → first_is_lower piece (reverse items) ≡ false
    → (lower ++ piece ∷ []) ++ reverse items ≡ lower ++ with_piece piece (reverse items)
pass_end piece lower items test =
    append_assoc lower (piece ∷ []) (reverse items) ∙ ap (λ t. lower ++ t) (sym (with_piece-front piece (reverse items) test))

-- a step that moves an item back
pub back_step : (lower rest items : List Piece) (last : Piece) → lower ≡ rest ++ last ∷ [] → rest ++ reverse (items ++ last ∷ []) ≡ lower ++ reverse items
back_step lower rest items last e =
    ap (λ t. rest ++ t) (reverse-push items last) ∙ sym (append_assoc rest (last ∷ []) (reverse items)) ∙ ap (λ t. t ++ reverse items) (sym e)

pub nat_less : (a b : ℕ) → a < b → nat_cmp a b ≡ Less
nat_less a b h = grind (arith, nat_tests)

lt_first : (o p : Ordering) → o ≡ Less → is_lt (ordering_then o p) ≡ true
lt_first o p e = ap (λ x. is_lt (ordering_then x p)) e

lower_node : (a b : Piece) → is_lower a b ≡ false → b.node ≤ a.node
lower_node a b e = by_node (cases_lt a.node b.node)
  where
    by_node : (a.node < b.node) ⊎ (b.node ≤ a.node) → b.node ≤ a.node
    by_node (inl below) = absurd (false≢true (sym e ∙ lt_first (nat_cmp a.node b.node) _ (nat_less a.node b.node below)))
    by_node (inr above) = above

index_falls : (n a b : ℕ) → b ≤ a → ordering_index (nat_cmp n a) ≤ ordering_index (nat_cmp n b)
index_falls n a b h = grind (arith, nat_tests)

-- along items that descend the answers of a search for a node rise
nodes_fall : (items : List Piece) (node : ℕ) → IsAscending (reverse items) → IsNonDecreasingBy (λ y. ordering_index (nat_cmp node y.node)) items
nodes_fall items node up i j d le within = by_place (cases_lt i j)
  where
    by_place : (i < j) ⊎ (j ≤ i) → ordering_index (nat_cmp node (get_or items i d).node) ≤ ordering_index (nat_cmp node (get_or items j d).node)
    by_place (inl before) = index_falls node _ _ (lower_node (get_or items i d) (get_or items j d) (descending_far items up i j d before within))
    by_place (inr after) =
        let same : i ≡ j = omega arith in
        let equal = ap (λ k. ordering_index (nat_cmp node (get_or items k d).node)) same in
        omega (arith, equal)

is_other : (node n : ℕ) (o : Ordering) → nat_cmp node n ≡ o → (o ≡ Equal → ⊥) → n ≢ node
is_other node n o e other same = other (sym e ∙ ap (nat_cmp node) same ∙ tied_itself nat_cmp_total node)

-- a search for a node fails exactly where no piece is of it
pub search_fails : (items : List Piece) (node : ℕ) (r : Result ℕ ℕ) → IsAscending (reverse items) → IsSearchInRange r (length items)
    → IsBinarySearchResult (λ y. nat_cmp node y.node) items r → IsTrue (is_err r) ↔ All (λ piece. piece.node ≢ node) (reverse items)
search_fails items node (Ok i) up bound found =
    let d = first_piece 0 0 0 0 0 in
    let all_of : All (λ piece. piece.node ≢ node) (reverse items) → All (λ piece. piece.node ≢ node) items =
    λ all. All-same (λ piece. piece.node ≢ node) items (reverse (reverse items)) (sym (reverse-reverse items)) (All-reverse (λ piece. piece.node ≢ node) (reverse items) all) in
    (λ h. absurd (false≢true h), λ all. absurd (all_of all i d bound (sym (ranked node (get_or items i d).node Equal (sym (found d))))))
search_fails items node (Err i) up bound found =
    let parts = found (nodes_fall items node up) in
    let at : (k : ℕ) (d : Piece) → k < length items → (k < i) ⊎ (i ≤ k) → (get_or items k d).node ≢ node = λ k d below side. elim side [
      | inl h ↦ is_other node (get_or items k d).node Less (parts.0 k d (omega arith) h) (λ e. cc)
      | inr h ↦ is_other node (get_or items k d).node Greater (parts.1 k d h below) (λ e. cc)
    ] in
    (λ h. All-reverse (λ piece. piece.node ≢ node) items (λ k d below. at k d below (cases_lt k i)), λ all. refl)
