-- A note that has all numbers has every owner's, so the book counts no more fails than the note.
use Rattle.std.proofs.Common.{◌≡◌, ◌≢◌, ◌⊎◌, inl, inr, ℕ, zero, suc, ◌+◌, ◌-◌, ◌<◌, ◌≤◌, List, [], ◌∷◌, length, Bool, true, false, refl, sym, ap, ◌∙◌, subst, arith}
use Rattle.std.specs.Prelude.{Option, Some, None, slice_get, nat_eq, nat_lt}
use Rattle.std.specs.List.{AllByRecursion, sum_by}
use Rattle.std.proofs.lemmas.List.Sums.{sum_by-cons}
use Rattle.std.proofs.lemmas.Bool.Decides.{nat_tests}
use Rattle.turn_desk.specs.declared.held.Note.{Note}
use Rattle.turn_desk.specs.Notes.{AreDistinct, Each, IsNotFree, IsSound, size_of}
use Rattle.book_core.specs.Book.{SeenBook}
use Rattle.book_core.specs.Runs.{IsThrough}
use Rattle.worker_table.specs.Ends.{IsEnded}
use Rattle.worker_table.specs.Fits.{Fits, FitEntries, FitsEntry, HasNoJobLeft, IsEndingOf, IsSlotOf}
use Rattle.known_jobs.specs.Jobs.{Setting}
use Rattle.worker_table.specs.Notes.{Ending, GoesOn, HasFinished, IsStopped, Entry, Owner, owner_of}
use Rattle.worker_table.specs.Places.{is_or_not}

-- ---- how many numbers of a list are below a bound

abbrev one_if : Bool → ℕ
one_if true = 1
one_if false = 0

abbrev below : ℕ → List ℕ → ℕ
below n [] = 0
below n (x ∷ xs) = one_if (nat_lt x n) + below n xs

abbrev just : ℕ → List ℕ → ℕ
just n [] = 0
just n (x ∷ xs) = one_if (nat_eq x n) + just n xs

one_more : (n x : ℕ) → one_if (nat_lt x (n + 1)) ≡ one_if (nat_lt x n) + one_if (nat_eq x n)
one_more n x = grind (arith, nat_tests)

below_more : (n : ℕ) (xs : List ℕ) → below (n + 1) xs ≡ below n xs + just n xs
below_more n [] = omega arith
below_more n (x ∷ xs) = let h = below_more n xs in let s = one_more n x in omega arith

just_none : (n : ℕ) (xs : List ℕ) → Each (λ y. y ≢ n) xs → just n xs ≡ 0
just_none n [] h = refl
just_none n (x ∷ xs) h = let r = just_none n xs h.1 in let d = h.0 in grind (arith, nat_tests)

just_once : (n : ℕ) (xs : List ℕ) → AreDistinct xs → just n xs ≤ 1
just_once n [] h = omega arith
just_once n (x ∷ xs) h = elim (is_or_not x n) as (λ _. just n (x ∷ xs) ≤ 1) [
  | inl e ↦ let r = just_none n xs (subst (λ z. Each (λ y. y ≢ z) xs) e h.0) in grind (arith, nat_tests)
  | inr d ↦ let r = just_once n xs h.1 in grind (arith, nat_tests)
]

-- of the numbers that are not free, none but 0 is at most the greatest free one
below_free : (free n : ℕ) (xs : List ℕ) → n ≤ free → Each (IsNotFree free) xs → below (n + 1) xs ≡ just 0 xs
below_free free n [] low h = refl
below_free free n (x ∷ xs) low h =
    let r = below_free free n xs low h.1 in
    let z : x ≤ free → x ≡ 0 = h.0 in
    let e : one_if (nat_lt x (n + 1)) ≡ one_if (nat_eq x 0) = grind (arith, nat_tests) in
    omega (arith, e)

below_most : (free k : ℕ) (xs : List ℕ) → AreDistinct xs → Each (IsNotFree free) xs → below (free + 1 + k) xs ≤ 1 + k
below_most free zero xs distinct taken =
    let e : free + 1 + 0 ≡ free + 1 = omega arith in
    rw e (let b = below_free free free xs (omega arith) taken in let s = just_once 0 xs distinct in omega arith)
below_most free (suc k) xs distinct taken =
    let e : free + 1 + suc k ≡ free + 1 + k + 1 = omega arith in
    rw e (let b = below_most free k xs distinct taken in let s = below_more (free + 1 + k) xs in let o = just_once (free + 1 + k) xs distinct in omega arith)

all_below : (n : ℕ) (xs : List ℕ) → Each (λ x. x < n) xs → below n xs ≡ length xs
all_below n [] h = refl
all_below n (x ∷ xs) h = let r = all_below n xs h.1 in let l : x < n = h.0 in grind (arith, nat_tests)

abbrev HasNumber : List ℕ → ℕ → Type 0
HasNumber [] k = ⊥
HasNumber (x ∷ xs) k = (x ≡ k) ⊎ HasNumber xs k

has_or_not : (k : ℕ) (xs : List ℕ) → HasNumber xs k ⊎ Each (λ y. y ≢ k) xs
has_or_not k [] = inr tt
has_or_not k (x ∷ xs) = elim (is_or_not x k) as (λ _. HasNumber (x ∷ xs) k ⊎ Each (λ y. y ≢ k) (x ∷ xs)) [
  | inl e ↦ inl (inl e)
  | inr d ↦ elim (has_or_not k xs) as (λ _. HasNumber (x ∷ xs) k ⊎ Each (λ y. y ≢ k) (x ∷ xs)) [ inl h ↦ inl (inr h) | inr n ↦ inr (d, n) ]
]

-- a list that with its free numbers has as many as there are has each that is not free
has_all : (total free k : ℕ) (xs : List ℕ) → free < total → AreDistinct xs → Each (λ x. x < total) xs → Each (IsNotFree free) xs → length xs + free ≡ total → k < total → IsNotFree free k → HasNumber xs k
has_all total free k xs some distinct within taken all less own = elim (has_or_not k xs) as (λ _. HasNumber xs k) [
  | inl h ↦ h
  | inr none ↦
      let m : (gap : ℕ) → free + 1 + gap ≡ total → ⊥ = λ gap e.
      let b = below_most free gap (k ∷ xs) (none, distinct) (own, taken) in
      let a = all_below (free + 1 + gap) (k ∷ xs) (subst (λ z. k < z) (sym e) less, subst (λ z. Each (λ x. x < z) xs) (sym e) within) in
      omega (arith, a, b, e, all) in
      absurd (m (total - (free + 1)) (omega arith))
]

-- ---- what the owners of a list of numbers have

module _ (f : Owner → ℕ) (h : Entry → ℕ) (agree : (n : ℕ) (e : Entry) → f (owner_of n e.calls e.reads) ≡ h e) where
  abbrev only_if : Bool → Owner → ℕ
  only_if true o = f o
  only_if false o = 0

  abbrev owned : ℕ → List Owner → ℕ
  owned n [] = 0
  owned n (o ∷ os) = only_if (nat_eq o.number n) o + owned n os

  abbrev owned_by : List ℕ → List Owner → ℕ
  owned_by [] os = 0
  owned_by (n ∷ ns) os = owned n os + owned_by ns os

  abbrev hits : List ℕ → Owner → ℕ
  hits [] o = 0
  hits (n ∷ ns) o = only_if (nat_eq o.number n) o + hits ns o

  owned_none : (n : ℕ) (os : List Owner) → ((i : ℕ) (o : Owner) → slice_get os i ≡ Some o → o.number ≢ n) → owned n os ≡ 0
  owned_none n [] away = refl
  owned_none n (o ∷ os) away =
      let r = owned_none n os (λ i. away (suc i)) in
      let d : o.number ≢ n = away zero o refl in
      let m : only_if (nat_eq o.number n) o ≡ 0 = grind (arith, nat_tests) in omega (arith, m, r)

  owned_one : (n : ℕ) (os : List Owner) (i : ℕ) (p : Owner) → ((j : ℕ) (o : Owner) → slice_get os j ≡ Some o → o.number ≡ n → j ≡ i) → slice_get os i ≡ Some p → owned n os ≤ f p
  owned_one n [] i p only at = omega arith
  owned_one n (o ∷ os) zero p only at =
      let r = owned_none n os (λ j q is e. let z : suc j ≡ zero = only (suc j) q is e in omega (arith, z)) in
      let w : o ≡ p = cc in let v : f o ≡ f p = ap f w in
      let m : only_if (nat_eq o.number n) o ≤ f o = grind (arith, nat_tests) in omega (arith, m, r, v)
  owned_one n (o ∷ os) (suc i) p only at =
      let r = owned_one n os i p (λ j q is e. let z : suc j ≡ suc i = only (suc j) q is e in omega (arith, z)) at in
      let d : o.number ≢ n = λ e. let z : zero ≡ suc i = only zero o refl e in omega (arith, z) in
      let m : only_if (nat_eq o.number n) o ≡ 0 = grind (arith, nat_tests) in omega (arith, m, r)

  entry_owned : (b : SeenBook) (owners : List Owner) (n : ℕ) (e : Entry) (slot : Option ℕ) → e.slot ≡ slot → FitsEntry b owners n e → owned n owners ≤ h e
  entry_owned b owners n e None is fit =
      let r = owned_none n owners (λ i o at own. let z : e.slot ≡ Some i = fit.alone i o at own in let w : None ≡ Some i = sym is ∙ z in cc) in omega (arith, r)
  entry_owned b owners n e (Some i) is fit =
      let s = subst (IsSlotOf b owners n e.job e.calls e.reads) is fit.slot in
      let o = owned_one n owners i (owner_of n e.calls e.reads) (λ j o at own. let z : e.slot ≡ Some j = fit.alone j o at own in let w : Some i ≡ Some j = sym is ∙ z in let v : i ≡ j = cc in sym v) s.0 in
      omega (arith, o, agree n e)

  entries_owned : (b : SeenBook) (owners : List Owner) (ns : List ℕ) (es : List Entry) → FitEntries b owners ns es → owned_by ns owners ≤ sum_by h es
  entries_owned b owners [] [] fit = omega arith
  entries_owned b owners (n ∷ ns) (e ∷ es) fit = let r = entries_owned b owners ns es fit.1 in let o = entry_owned b owners n e e.slot refl fit.0 in omega (arith, sum_by-cons h e es)
  entries_owned b owners [] (e ∷ es) fit = absurd fit
  entries_owned b owners (n ∷ ns) [] fit = absurd fit

  owned_more : (ns : List ℕ) (o : Owner) (os : List Owner) → owned_by ns (o ∷ os) ≡ hits ns o + owned_by ns os
  owned_more [] o os = omega arith
  owned_more (n ∷ ns) o os = let r = owned_more ns o os in omega arith

  hits_one : (ns : List ℕ) (o : Owner) → HasNumber ns o.number → f o ≤ hits ns o
  hits_one [] o has = absurd has
  hits_one (n ∷ ns) o has = elim has as (λ _. f o ≤ hits (n ∷ ns) o) [
    | inl e ↦ let m : only_if (nat_eq o.number n) o ≡ f o = grind (arith, nat_tests) in omega (arith, m)
    | inr k ↦ let r = hits_one ns o k in omega arith
  ]

  sum_owned : (ns : List ℕ) (os : List Owner) → ((i : ℕ) (o : Owner) → slice_get os i ≡ Some o → HasNumber ns o.number) → sum_by f os ≤ owned_by ns os
  sum_owned ns [] has = omega arith
  sum_owned ns (o ∷ os) has = let r = sum_owned ns os (λ i. has (suc i)) in let k = hits_one ns o (has zero o refl) in let m = owned_more ns o os in omega (arith, sum_by-cons f o os)

  number_at : (os : List Owner) (i : ℕ) (o : Owner) → AllByRecursion (λ p. p.number < 4294967296) os → slice_get os i ≡ Some o → o.number < 4294967296
  number_at [] i o all at = cc
  number_at (p ∷ os) zero o all at = let w : p ≡ o = cc in subst (λ (q : Owner). q.number < 4294967296) w all.0
  number_at (p ∷ os) (suc i) o all at = number_at os i o all.1 at

  -- what all owners have together is at most what the note has
  pub sum_within : (b : SeenBook) (owners : List Owner) (m : Note (List Entry)) → IsSound m → size_of m ≡ 4294967296 → AllByRecursion (λ p. p.number < 4294967296) owners → FitEntries b owners m.numbers m.about
      → ((n : ℕ) → 0 < n → n ≤ m.free → (i : ℕ) (o : Owner) → slice_get owners i ≡ Some o → o.number ≢ n) → sum_by f owners ≤ sum_by h m.about
  sum_within b owners m sound all numbers fit free =
      let s = sum_owned m.numbers owners (λ i o at. has_all 4294967296 m.free o.number m.numbers sound.free sound.distinct sound.below sound.taken all (number_at owners i o numbers at)
      (λ low. elim (is_or_not o.number 0) as (λ _. o.number ≡ 0) [ inl z ↦ z | inr d ↦ absurd (free o.number (omega (arith, d)) low i o at refl) ])) in
      let e = entries_owned b owners m.numbers m.about fit in
      omega arith

-- ---- the book at the end

module _ (setting : Setting) (b : SeenBook) (owners : List Owner) (m : Note (List Entry)) (sound : IsSound m) (all : size_of m ≡ 4294967296) (fit : Fits setting b owners m) where
  pub calls_within : b.calls ≤ sum_by (λ (e : Entry). e.calls) m.about
  calls_within =
      let s = sum_within (λ o. o.calls) (λ e. e.calls) (λ n e. refl) b owners m sound all fit.owners_of.numbers fit.entries fit.free in
      let c = fit.owners_of.calls in omega arith

  pub reads_within : b.reads ≤ sum_by (λ (e : Entry). e.reads) m.about
  reads_within =
      let s = sum_within (λ o. o.reads) (λ e. e.reads) (λ n e. refl) b owners m sound all fit.owners_of.numbers fit.entries fit.free in
      let c = fit.owners_of.reads in omega arith

-- how each pass ended is so of the book
ended_as : (b : SeenBook) (ending : Ending) → (HasNoJobLeft b → IsThrough b) → IsEndingOf b ending → IsEnded b ending
ended_as b GoesOn through fit = tt
ended_as b HasFinished through fit = (fit, through fit)
ended_as b IsStopped through fit = fit

pub ended_all : (b : SeenBook) (owners : List Owner) (ns : List ℕ) (es : List Entry) → (HasNoJobLeft b → IsThrough b) → FitEntries b owners ns es → AllByRecursion (λ (e : Entry). IsEnded b e.ending) es
ended_all b owners [] [] through fit = tt
ended_all b owners (n ∷ ns) (e ∷ es) through fit = (ended_as b e.ending through fit.0.ending, ended_all b owners ns es through fit.1)
ended_all b owners [] (e ∷ es) through fit = absurd fit
ended_all b owners (n ∷ ns) [] through fit = absurd fit
