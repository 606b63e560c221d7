-- Where a position goes among those that are dead: behind those that are lower.
use Rattle.std.proofs.Common.{◌≡◌, ℕ, ◌≤◌, Bool, true, false, cond, List, [], ◌∷◌, ◌++◌, length, take, drop, get_or, refl, sym, ap, ◌∙◌}
use Rattle.std.specs.Prelude.{insert}
use Rattle.std.specs.List.{All}
use Rattle.std.specs.List.Sorted.{IsSorted, IsPartitionPoint, IsPartitionedBy}
use Rattle.std.specs.Ordering.{is_lt}
use Rattle.std.proofs.lemmas.Bool.{false≢true}
use Rattle.std.proofs.lemmas.List.{take-append-drop}
use Rattle.std.proofs.lemmas.List.Elements.{All-head, All-tail}
use Rattle.std.proofs.lemmas.List.Sorted.{sorted_far, ranks_by}
use Rattle.beam_values.specs.declared.piece.Dead.{Dead}
use Rattle.book_core.specs.Changes.{dead_cmp, with_dead}
use Rattle.book_core.proofs.CommitParts.{All-take_within, All-drop_within}
use Rattle.book_core.proofs.Formed.{dead_total}

behind_lower : (new : Dead) (front back : List Dead) → All (λ d. is_lt (dead_cmp d new) ≡ true) front → with_dead new (front ++ back) ≡ front ++ with_dead new back
behind_lower new [] back h = refl
behind_lower new (d ∷ front) back h =
    ap (λ (t : Bool). cond t (d ∷ with_dead new (front ++ back)) (new ∷ d ∷ front ++ back)) (All-head (λ x. is_lt (dead_cmp x new) ≡ true) d front h)
    ∙ ap (λ (l : List Dead). d ∷ l) (behind_lower new front back (All-tail (λ x. is_lt (dead_cmp x new) ≡ true) d front h))

before_others : (new : Dead) (back : List Dead) → All (λ d. is_lt (dead_cmp d new) ≡ false) back → with_dead new back ≡ new ∷ back
before_others new [] h = refl
before_others new (d ∷ back) h = ap (λ (t : Bool). cond t (d ∷ with_dead new back) (new ∷ d ∷ back)) (All-head (λ x. is_lt (dead_cmp x new) ≡ false) d back h)

pub placed_dead : (dead : List Dead) (new : Dead) (i : ℕ) → i ≤ length dead
    → IsPartitionPoint (λ y. is_lt (dead_cmp y new) ≡ true) (λ y. is_lt (dead_cmp y new) ≡ false) dead i
    → insert dead i new ≡ with_dead new dead
placed_dead dead new i inside parts =
    let front = take i dead in
    let back = drop i dead in
    sym (ap (with_dead new) (sym (take-append-drop i dead))
    ∙ behind_lower new front back (All-take_within (λ y. is_lt (dead_cmp y new) ≡ true) dead i inside parts.0)
    ∙ ap (λ (l : List Dead). front ++ l) (before_others new back (All-drop_within (λ y. is_lt (dead_cmp y new) ≡ false) dead i inside parts.1)))

pub parted_dead : (dead : List Dead) (new : Dead) → IsSorted dead_cmp dead → IsPartitionedBy (λ y. is_lt (dead_cmp y new)) dead
parted_dead dead new up i j d below within holds =
    let weak = ranks_by dead_total (λ (x : Dead). x) in
    let first = get_or dead i d in
    let later = get_or dead j d in
    let ordered = sorted_far (λ (x y : Dead). is_lt (dead_cmp x y)) weak dead up i j d below within in
    by first new (is_lt (dead_cmp first new)) refl (λ e. sym (weak.chain later first new ordered e) ∙ holds)
  where
    by : (x y : Dead) (t : Bool) → is_lt (dead_cmp x y) ≡ t → (is_lt (dead_cmp x y) ≡ false → false ≡ true) → is_lt (dead_cmp x y) ≡ true
    by x y true e f = e
    by x y false e f = absurd (false≢true (f e))
