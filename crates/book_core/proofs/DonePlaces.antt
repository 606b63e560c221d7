-- Where a range goes among those that are done: behind those that are equal, which is no other list than before them.
use Rattle.std.proofs.Common.{◌≡◌, ℕ, ◌≤◌, Bool, true, false, cond, List, [], ◌∷◌, ◌++◌, length, take, drop, get_or, refl, sym, ap, subst, ◌∙◌, Ordering, Less, Equal, Greater}
use Rattle.std.specs.Prelude.{insert}
use Rattle.std.specs.List.{All}
use Rattle.std.specs.List.Sorted.{IsSorted, IsPartitionPoint, IsPartitionedBy}
use Rattle.std.specs.Ordering.{is_le, is_lt, ordering_reverse, ordering_then, nat_cmp}
use Rattle.std.proofs.lemmas.Bool.{false≢true}
use Rattle.std.proofs.lemmas.List.{take-append-drop}
use Rattle.std.proofs.lemmas.List.Elements.{All-head, All-tail}
use Rattle.std.proofs.lemmas.List.Sorted.{sorted_far, ranks_by}
use Rattle.std.proofs.lemmas.Map.Lookups.{exact_unsigned}
use Rattle.beam_values.specs.declared.piece.Done.{Done}
use Rattle.book_core.specs.Changes.{done_cmp, with_done}
use Rattle.book_core.proofs.CommitParts.{All-take_within, All-drop_within}
use Rattle.book_core.proofs.Formed.{done_total}
use Rattle.book_core.proofs.InOrder.{NoneBelow, sorted_first, sorted_rest}

-- a range is put behind those that are lower or equal
abbrev behind : Done → List Done → List Done
behind new [] = new ∷ []
behind new (d ∷ done) = cond (is_le (done_cmp d new)) (d ∷ behind new done) (new ∷ d ∷ done)

-- ---- ranges that compare as equal are the same

equal_both : (r s : Ordering) → is_lt (ordering_then r s) ≡ false → is_le (ordering_then r s) ≡ true → (r ≡ Equal) × (s ≡ Equal)
equal_both Less s lt le = absurd (cc)
equal_both Equal Less lt le = absurd (cc)
equal_both Equal Equal lt le = (refl, refl)
equal_both Equal Greater lt le = absurd (cc)
equal_both Greater s lt le = absurd (cc)

equal_alone : (r : Ordering) → is_lt r ≡ false → is_le r ≡ true → r ≡ Equal
equal_alone Less lt le = absurd (cc)
equal_alone Equal lt le = refl
equal_alone Greater lt le = absurd (cc)

same_range : (a b : Done) → is_lt (done_cmp a b) ≡ false → is_le (done_cmp a b) ≡ true → a ≡ b
same_range a b lt le =
    let node = equal_both (nat_cmp a.node b.node) _ lt le in
    let behind_node : is_lt (done_cmp a b) ≡ is_lt Equal = cc in
    let rest = ordering_then (nat_cmp a.item b.item) (ordering_then (nat_cmp a.range.from b.range.from) (nat_cmp a.range.to b.range.to)) in
    let item = equal_both (nat_cmp a.item b.item) _ (ap is_lt node.1) (ap is_le node.1) in
    let from = equal_both (nat_cmp a.range.from b.range.from) _ (ap is_lt item.1) (ap is_le item.1) in
    let same_node = exact_unsigned a.node b.node node.0 in
    let same_item = exact_unsigned a.item b.item item.0 in
    let same_from = exact_unsigned a.range.from b.range.from from.0 in
    let same_to = exact_unsigned a.range.to b.range.to from.1 in
    λ i. record { node = same_node i; item = same_item i; range = record { from = same_from i; to = same_to i } }

-- ---- the two places give one list

le_from_lt : (r : Ordering) → is_lt r ≡ true → is_le r ≡ true
le_from_lt Less lt = refl
le_from_lt Equal lt = absurd (cc)
le_from_lt Greater lt = absurd (cc)

behind_same : (new : Done) (done : List Done) → IsSorted done_cmp done → with_done new done ≡ behind new done
behind_same new [] up = refl
behind_same new (d ∷ done) up = by (is_lt (done_cmp d new)) (is_le (done_cmp d new)) refl refl (behind_same new done (sorted_rest done_cmp d done up)) (sorted_first done_cmp d done up)
  where
    before_rest : (l : List Done) → (x : Done) → x ≡ new → NoneBelow done_cmp x l → with_done new l ≡ new ∷ l
    before_rest [] x is low = refl
    before_rest (y ∷ l) x is low = ap (λ (t : Bool). cond t (y ∷ with_done new l) (new ∷ y ∷ l)) (subst (λ (z : Done). is_lt (done_cmp y z) ≡ false) is low)

    by : (t s : Bool) → is_lt (done_cmp d new) ≡ t → is_le (done_cmp d new) ≡ s → with_done new done ≡ behind new done → NoneBelow done_cmp d done
        → cond t (d ∷ with_done new done) (new ∷ d ∷ done) ≡ cond s (d ∷ behind new done) (new ∷ d ∷ done)
    by true true lt le rest low = ap (λ (l : List Done). d ∷ l) rest
    by true false lt le rest low = absurd (false≢true (sym le ∙ le_from_lt (done_cmp d new) lt))
    by false true lt le rest low =
        let is = same_range d new lt le in
        ap (λ (z : Done). new ∷ z ∷ done) is ∙ ap (λ (z : Done). z ∷ new ∷ done) (sym is) ∙ ap (λ (l : List Done). d ∷ l) (sym (before_rest done d is low) ∙ rest)
    by false false lt le rest low = refl

-- ---- the place that is found

behind_lower : (new : Done) (front back : List Done) → All (λ d. is_le (done_cmp d new) ≡ true) front → behind new (front ++ back) ≡ front ++ behind new back
behind_lower new [] back h = refl
behind_lower new (d ∷ front) back h =
    ap (λ (t : Bool). cond t (d ∷ behind new (front ++ back)) (new ∷ d ∷ front ++ back)) (All-head (λ x. is_le (done_cmp x new) ≡ true) d front h)
    ∙ ap (λ (l : List Done). d ∷ l) (behind_lower new front back (All-tail (λ x. is_le (done_cmp x new) ≡ true) d front h))

before_others : (new : Done) (back : List Done) → All (λ d. is_le (done_cmp d new) ≡ false) back → behind new back ≡ new ∷ back
before_others new [] h = refl
before_others new (d ∷ back) h = ap (λ (t : Bool). cond t (d ∷ behind new back) (new ∷ d ∷ back)) (All-head (λ x. is_le (done_cmp x new) ≡ false) d back h)

pub placed_done : (done : List Done) (new : Done) (i : ℕ) → IsSorted done_cmp done → i ≤ length done
    → IsPartitionPoint (λ y. is_le (done_cmp y new) ≡ true) (λ y. is_le (done_cmp y new) ≡ false) done i
    → insert done i new ≡ with_done new done
placed_done done new i up inside parts =
    let front = take i done in
    let back = drop i done in
    sym (behind_same new done up ∙ ap (behind new) (sym (take-append-drop i done))
    ∙ behind_lower new front back (All-take_within (λ y. is_le (done_cmp y new) ≡ true) done i inside parts.0)
    ∙ ap (λ (l : List Done). front ++ l) (before_others new back (All-drop_within (λ y. is_le (done_cmp y new) ≡ false) done i inside parts.1)))

turned_le : (r : Ordering) → is_le (ordering_reverse r) ≡ true → is_lt r ≡ false
turned_le Less h = absurd (cc)
turned_le Equal h = refl
turned_le Greater h = refl

turned_lt : (r : Ordering) → is_lt r ≡ false → is_le (ordering_reverse r) ≡ true
turned_lt Less h = absurd (cc)
turned_lt Equal h = refl
turned_lt Greater h = refl

pub parted_done : (done : List Done) (new : Done) → IsSorted done_cmp done → IsPartitionedBy (λ y. is_le (done_cmp y new)) done
parted_done done new up i j d below within holds =
    let weak = ranks_by done_total (λ (x : Done). x) in
    let first = get_or done i d in
    let later = get_or done j d in
    let later_within = turned_le (done_cmp new later) (ap is_le (sym (done_total.antisymm later new)) ∙ holds) in
    let first_within = weak.chain new later first later_within (sorted_far (λ (x y : Done). is_lt (done_cmp x y)) weak done up i j d below within) in
    ap is_le (done_total.antisymm first new) ∙ turned_lt (done_cmp new first) first_within
