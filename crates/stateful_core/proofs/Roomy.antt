-- Room at cells for what is led there.
use Rattle.std.proofs.Common.{◌≡◌, ℕ, zero, suc, ◌+◌, ◌<◌, ◌≤◌, ◌==◌, Bool, true, false, cond, List, [], ◌∷◌, ◌++◌, length, take, get_or, Option, Some, None, refl, sym, ap, subst, ◌∙◌, ◌⊎◌, inl, inr, arith}
use Rattle.std.specs.Prelude.{slice_get, slice_set}
use Rattle.std.specs.List.{count_by}
use Rattle.std.proofs.lemmas.List.Sums.{sum_by-cons, sum_by_more}
use Rattle.std.proofs.lemmas.Bool.Decides.{Decides-eqb}
use Rattle.std.proofs.lemmas.Option.{same_Some, slice_get-get_or, slice_get_within}
use Rattle.stateful_core.specs.Names.{AreRoomy, is_route}
use Rattle.stateful_core.specs.Opening.{IsAdded}
use Rattle.stateful_core.specs.Routes.{IsOneKept, one_if_at}
use Rattle.stateful_core.specs.declared.slot.Slot.{Slot}
use Rattle.stateful_core.specs.declared.waiting.Waiting.{Waiting}
use Rattle.stateful_core.proofs.Found.{set_got}
use Rattle.stateful_core.proofs.ByIndex.{got_behind, got_front}

-- ---- one item in the place of another

pub set_cases : {X : Type 0} (xs : List X) (i at : ℕ) (x y : X) → slice_get (slice_set xs i x) at ≡ Some y → ((at ≡ i) × (x ≡ y) × (i < length xs)) ⊎ (slice_get xs at ≡ Some y)
set_cases [] i at x y e = inr e
set_cases (z ∷ xs) zero zero x y e = inl (refl, same_Some x y e, omega arith)
set_cases (z ∷ xs) zero (suc at) x y e = inr e
set_cases (z ∷ xs) (suc i) zero x y e = inr e
set_cases (z ∷ xs) (suc i) (suc at) x y e = elim (set_cases xs i at x y e) [ inl h ↦ inl (ap suc h.0, h.1, omega (arith, h.2)) | inr h ↦ inr h ]

-- each slot has at least the room that it had
pub record IsNoLess (slots after : List Slot) : Type 0 where
  pub room : (at : ℕ) (new : Slot) → slice_get after at ≡ Some new → (old : Slot) × (slice_get slots at ≡ Some old) × (old.waiting.room ≤ new.waiting.room)

pub no_less_set : (slots : List Slot) (at : ℕ) (old new : Slot) → slice_get slots at ≡ Some old → old.waiting.room ≤ new.waiting.room → IsNoLess slots (slice_set slots at new)
no_less_set slots at old new e h = record {
  room = λ i y f. elim (set_cases slots at i new y f) [
    | inl g ↦ (old, ap (slice_get slots) g.0 ∙ e, subst (λ (s : Slot). old.waiting.room ≤ s.waiting.room) g.1 h)
    | inr g ↦ (y, g, omega arith)
  ];
}

pub roomy_kept : (first : ℕ) (routes : List ℕ) (slots after : List Slot) → IsNoLess slots after → AreRoomy first routes slots → AreRoomy first routes after
roomy_kept first routes slots after more h = record {
  room = λ at new e. let o = more.room at new e in omega (arith, h.room at o.0 o.1, o.2);
}

pub roomy_set : (first : ℕ) (routes : List ℕ) (slots : List Slot) (at : ℕ) (d new : Slot) → at < length slots → (get_or slots at d).waiting.room ≤ new.waiting.room
    → AreRoomy first routes slots → AreRoomy first routes (slice_set slots at new)
roomy_set first routes slots at d new less h = roomy_kept first routes slots (slice_set slots at new) (no_less_set slots at (get_or slots at d) new (slice_get-get_or slots at d less) h)

-- ---- keeping room

pub roomy_none : (first : ℕ) (slots : List Slot) → AreRoomy first [] slots
roomy_none first slots = record { room = λ at slot e. omega arith }

pub roomy_more : (first : ℕ) (routes : List ℕ) (k number : ℕ) (slots after : List Slot) → k < length routes → number ≡ get_or routes k number → IsOneKept first number slots after
    → AreRoomy first (take k routes) slots → AreRoomy first (take (k + 1) routes) after
roomy_more first routes k number slots after less read one h = record {
  room = λ at new e.
      let o = one.kept at new e in
      let last = ap (λ (r : ℕ). one_if_at r (first + at)) read in
      omega (arith, h.room at o.0 o.1, o.2, last, sum_by_more (λ r. cond (is_route (first + at) r) 1 0) routes k number less);
}

pub kept_none : (first number : ℕ) (slots : List Slot) → ((at : ℕ) → at < length slots → (number ≡ first + at → ⊥)) → IsOneKept first number slots slots
kept_none first number slots other = record {
  kept = λ at new e. (new, e, let z = off number (first + at) (other at (slice_get_within slots at new e)) in omega (arith, z));
}
  where
    off : (a b : ℕ) → (a ≡ b → ⊥) → one_if_at a b ≡ 0
    off a b h = by (a == b) refl
      where
        by : (t : Bool) → (a == b) ≡ t → ◌≡◌ {A = ℕ} (cond t 1 0) 0
        by true e = absurd (h ((Decides-eqb a b).0 e))
        by false e = refl

pub kept_one : (slots : List Slot) (at : ℕ) (d new : Slot) → at < length slots → new.waiting.room ≡ (get_or slots at d).waiting.room + 1 → IsOneKept 0 at slots (slice_set slots at new)
kept_one slots at d new less e = record {
  kept = λ i y f. elim (set_cases slots at i new y f) [
    | inl g ↦ (
      get_or slots at d,
      ap (slice_get slots) g.0 ∙ slice_get-get_or slots at d less,
      let same : y.waiting.room ≡ new.waiting.room = ap (λ (s : Slot). s.waiting.room) (sym g.1) in
          let most = one_most at (0 + i) in
          omega (arith, e, same, most),
    )
    | inr g ↦ other i y f g
  ];
}
  where
    one_most : (a b : ℕ) → one_if_at a b ≤ 1
    one_most a b = by (a == b)
      where
        by : (t : Bool) → cond t 1 0 ≤ 1
        by true = omega arith
        by false = omega arith

    off : (a b : ℕ) → (a ≡ b → ⊥) → one_if_at a b ≡ 0
    off a b h = by (a == b) refl
      where
        by : (t : Bool) → (a == b) ≡ t → ◌≡◌ {A = ℕ} (cond t 1 0) 0
        by true e = absurd (h ((Decides-eqb a b).0 e))
        by false e = refl

    other : (i : ℕ) (y : Slot) → slice_get (slice_set slots at new) i ≡ Some y → slice_get slots i ≡ Some y
        → (old : Slot) × (slice_get slots i ≡ Some old) × (old.waiting.room + one_if_at at (0 + i) ≤ y.waiting.room)
    other i y f g = by (at == i) refl
      where
        by : (t : Bool) → (at == i) ≡ t → (old : Slot) × (slice_get slots i ≡ Some old) × (old.waiting.room + one_if_at at (0 + i) ≤ y.waiting.room)
        by true e_ =
            let same : at ≡ i = (Decides-eqb at i).0 e_ in
            let is : new ≡ y = same_Some new y (sym (set_got slots at new less) ∙ ap (slice_get (slice_set slots at new)) same ∙ f) in
            let room : y.waiting.room ≡ new.waiting.room = ap (λ (s : Slot). s.waiting.room) (sym is) in
            (get_or slots at d, ap (slice_get slots) (sym same) ∙ slice_get-get_or slots at d less, let most = one_most at (0 + i) in omega (arith, e, room, most))
        by false e_ = (y, g, let z = off at (0 + i) (λ same. apart (let s : at ≡ i = omega (arith, same) in s) e_) in omega (arith, z))
          where
            apart : at ≡ i → (at == i) ≡ false → ⊥
            apart s h = let t = (Decides-eqb at i).1 s in cc

-- the numbers of the slots begin elsewhere
pub kept_from : (first number at : ℕ) (slots after : List Slot) → number ≡ first + at → IsOneKept 0 at slots after → IsOneKept first number slots after
kept_from first number at slots after e h = record {
  kept = λ i new f. let o = h.kept i new f in (o.0, o.1, let s = same at i number (first + i) (λ k. omega (arith, e, k)) in omega (arith, o.2, s));
}
  where
    same : (a i b j : ℕ) → (b ≡ j → a ≡ i) → one_if_at b j ≤ one_if_at a (0 + i)
    same a i b j h = by (b == j) refl
      where
        yes : a ≡ i → one_if_at a (0 + i) ≡ 1
        yes k = let z : a ≡ 0 + i = omega (arith, k) in ap (λ t. cond t 1 0) ((Decides-eqb a (0 + i)).1 z)

        by : (t : Bool) → (b == j) ≡ t → cond t 1 0 ≤ one_if_at a (0 + i)
        by true f = let one = yes (h ((Decides-eqb b j).0 f)) in omega (arith, one)
        by false f = omega arith

-- ---- an element waits

counted : {X : Type 0} (p : X → Bool) (x : X) (xs : List X) → count_by p (x ∷ xs) ≡ cond (p x) 1 0 + count_by p xs
counted p x xs = sum_by-cons (λ y. cond (p y) 1 0) x xs

own_route : (at : ℕ) (routes : List ℕ) → count_by (is_route (0 + at)) (at ∷ routes) ≡ 1 + count_by (is_route (0 + at)) routes
own_route at routes =
    let same : at ≡ 0 + at = omega arith in
    counted (is_route (0 + at)) at routes ∙ ap (λ t. cond t 1 0 + count_by (is_route (0 + at)) routes) ((Decides-eqb at (0 + at)).1 same)

pub some_room : (at : ℕ) (routes : List ℕ) (slots : List Slot) → AreRoomy 0 (at ∷ routes) slots → (slot : Slot) → slice_get slots at ≡ Some slot → 0 < slot.waiting.room
some_room at routes slots h slot e = omega (arith, h.room at slot e, own_route at routes)

pub roomy_put : (at : ℕ) (routes : List ℕ) (slots after : List Slot) (old : Slot) (waiting : Waiting) → slice_get slots at ≡ Some old → IsAdded slots at old waiting after
    → AreRoomy 0 (at ∷ routes) slots → AreRoomy 0 routes after
roomy_put at routes slots after old waiting e added h = record {
  room = λ i y f. elim (set_cases slots at i added.new y (ap (λ l. slice_get l i) (sym added.set) ∙ f)) [
    | inl g ↦
        let is : y.waiting.room ≡ added.new.waiting.room = ap (λ (s : Slot). s.waiting.room) (sym g.1) in
        let moved : count_by (is_route (0 + i)) routes ≡ count_by (is_route (0 + at)) routes = ap (λ n. count_by (is_route (0 + n)) routes) g.0 in
        omega (arith, is, moved, h.room at old e, own_route at routes, added.more.room)
    | inr g ↦ omega (arith, h.room i y g, counted (is_route (0 + i)) at routes)
  ];
}

-- ---- slots behind others

pub roomy_append : (routes : List ℕ) (xs ys : List Slot) (n : ℕ) → n ≡ length xs → AreRoomy 0 routes xs → AreRoomy n routes ys → AreRoomy 0 routes (xs ++ ys)
roomy_append routes xs ys n sized h k = record { room = λ at slot e. by at slot e (cases at (length xs)) }
  where
    cases : (a b : ℕ) → (a < b) ⊎ ((c : ℕ) × (a ≡ b + c))
    cases a zero = inr (a, omega arith)
    cases zero (suc b) = inl (omega arith)
    cases (suc a) (suc b) = elim (cases a b) [ inl l ↦ inl (omega (arith, l)) | inr m ↦ inr (m.0, omega (arith, m.1)) ]

    by : (at : ℕ) (slot : Slot) → slice_get (xs ++ ys) at ≡ Some slot → (at < length xs) ⊎ ((c : ℕ) × (at ≡ length xs + c)) → count_by (is_route (0 + at)) routes ≤ slot.waiting.room
    by at slot e (inl l) = h.room at slot (sym (got_front xs ys at l) ∙ e)
    by at slot e (inr m) =
        let there = k.room m.0 slot (sym (got_behind xs ys m.0 at m.1) ∙ e) in
        let same : n + m.0 ≡ 0 + at = omega (arith, m.1, sized) in
        let moved : count_by (is_route (n + m.0)) routes ≡ count_by (is_route (0 + at)) routes = ap (λ i. count_by (is_route i) routes) same in
        omega (arith, there, moved)

pub roomy_put_at : (at : ℕ) (routes : List ℕ) (slots after : List Slot) (waiting : Waiting) → at < length slots
    → ((slot : Slot) → slice_get slots at ≡ Some slot → IsAdded slots at slot waiting after) → AreRoomy 0 (at ∷ routes) slots → AreRoomy 0 routes after
roomy_put_at at routes slots after waiting less added h = by (slice_get slots at) refl
  where
    past : (xs : List Slot) (i : ℕ) → slice_get xs i ≡ None → i < length xs → ⊥
    past [] i e l = absurd (omega (arith, l))
    past (x ∷ xs) zero e l = absurd (cc)
    past (x ∷ xs) (suc i) e l = past xs i e (omega (arith, l))

    by : (o : Option Slot) → slice_get slots at ≡ o → AreRoomy 0 routes after
    by None e = absurd (past slots at e less)
    by (Some old) e = roomy_put at routes slots after old waiting e (added old e) h
