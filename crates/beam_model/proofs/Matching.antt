-- Lists whose members match one by one are one bag, and the members of one bag are the same.
use Rattle.std.proofs.Common.{◌≡◌, inl, inr, ℕ, ◌<◌, ◌≤◌, Bool, true, cond, List, [], ◌∷◌, ◌++◌, length, get_or, refl, sym, ap, subst, ◌∙◌, arith}
use Rattle.std.specs.List.{All, Any, AllByRecursion, sum_by, count_by}
use Rattle.std.proofs.lemmas.Bool.{cases_Bool}
use Rattle.std.proofs.lemmas.List.{get_or_at, length-append}
use Rattle.std.proofs.lemmas.List.Sums.{sum_by-cons, sum_by-append, get_or-le-sum_by}
use Rattle.beam_values.specs.Bags.{IsSameBag}
use Rattle.beam_values.proofs.Bags.{bag_refl, bag_count}

-- the members of a list up to one that passes a test, that one, and those after it
pub record Split {X : Type 0} (test : X → Bool) (xs : List X) : Type 0 where
  pub front : List X
  pub at : X
  pub back : List X
  pub is : xs ≡ front ++ at ∷ back
  pub passes : test at ≡ true

pub split : {X : Type 0} (test : X → Bool) (xs : List X) → 1 ≤ count_by test xs → Split test xs
split test [] some = absurd (omega arith)
split test (x ∷ xs) some =
    elim (cases_Bool (test x)) [
      | inl passing ↦ record { front = []; at = x; back = xs; is = refl; passes = passing }
      | inr failing ↦
          let here : cond {A = ℕ} (test x) 1 0 ≡ 0 = ap (λ (b : Bool). cond {A = ℕ} b 1 0) failing in
          let rest = split test xs (omega (arith, sum_by-cons (λ (y : _). cond {A = ℕ} (test y) 1 0) x xs)) in
          record { front = x ∷ rest.front; at = rest.at; back = rest.back; is = ap (λ l. x ∷ l) rest.is; passes = rest.passes }
    ]

each_middle : {X : Type 0} (P : X → Type 0) (front : List X) (x : X) (back : List X) → AllByRecursion P (front ++ x ∷ back)
    → P x × AllByRecursion P (front ++ back)
each_middle P [] x back h = h
each_middle P (y ∷ front) x back h = let rest = each_middle P front x back h.1 in (rest.0, (h.0, rest.1))

module _ {X : Type 0} (own : X → X → Bool) (itself : (x : X) → own x x ≡ true) (P Q : X → Type 0)
    (one : (p q : X) → P p → Q q → own p q ≡ true → p ≡ q) where
  pub matched : (ps qs : List X) → AllByRecursion P ps → AllByRecursion Q qs → ((t : X) → count_by (own t) ps ≡ count_by (own t) qs) → IsSameBag ps qs
  matched [] [] h k counts = bag_refl []
  matched [] (q ∷ qs) h k counts =
      let here : cond {A = ℕ} (own q q) 1 0 ≡ 1 = ap (λ (b : Bool). cond {A = ℕ} b 1 0) (itself q) in
      absurd (omega (arith, counts q, sum_by-cons (λ (x : X). cond {A = ℕ} (own q x) 1 0) q qs))
  matched (p ∷ ps) qs h k counts =
      let here : cond {A = ℕ} (own p p) 1 0 ≡ 1 = ap (λ (b : Bool). cond {A = ℕ} b 1 0) (itself p) in
      let found = split (own p) qs (omega (arith, counts p, sum_by-cons (λ (x : X). cond {A = ℕ} (own p x) 1 0) p ps)) in
      let others = each_middle Q found.front found.at found.back (subst (λ (l : List X). AllByRecursion Q l) found.is k) in
      let same = one p found.at h.0 others.0 found.passes in
      let counted : (t : X) → count_by (own t) ps ≡ count_by (own t) (found.front ++ found.back) = λ t.
      let w : X → ℕ = λ x. cond {A = ℕ} (own t x) 1 0 in
      omega (arith, counts t, ap (sum_by w) found.is, sum_by-cons w p ps, sum_by-append w found.front (found.at ∷ found.back), sum_by-cons w found.at found.back, sum_by-append w found.front found.back, ap w same) in
      let rest = matched ps (found.front ++ found.back) h.1 others.1 counted in
      record {
        weighs = λ w.
            omega (arith, rest.weighs w, ap (sum_by w) found.is, sum_by-cons w p ps, sum_by-append w found.front (found.at ∷ found.back), sum_by-cons w found.at found.back, sum_by-append w found.front found.back, ap w same);
      }

pub count_member : {X : Type 0} (test : X → Bool) (xs : List X) (k : ℕ) (d : X) → k < length xs → test (get_or xs k d) ≡ true → 1 ≤ count_by test xs
count_member test xs k d within passes =
    let here : cond {A = ℕ} (test (get_or xs k d)) 1 0 ≡ 1 = ap (λ (b : Bool). cond {A = ℕ} b 1 0) passes in
    omega (arith, get_or-le-sum_by (λ (x : _). cond {A = ℕ} (test x) 1 0) xs k d within)

-- where equality is tested, one bag has the same members
module _ {X : Type 0} (equal : X → X → Bool) (itself : (x : X) → equal x x ≡ true) (sound : (x y : X) → equal x y ≡ true → x ≡ y)
    (P : X → Type 0) (xs ys : List X) (same : IsSameBag xs ys) where
  member_moved : (k : ℕ) (d : X) → k < length xs → Split (equal (get_or xs k d)) ys
  member_moved k d within =
      let x = get_or xs k d in
      split (equal x) ys (subst (λ (n : ℕ). 1 ≤ n) (bag_count (equal x) xs ys same) (count_member (equal x) xs k d within (itself x)))

  pub any_moved : Any P xs → Any P ys
  any_moved any =
      let found = member_moved any.0 any.1 any.2 in
      let is : any.1 ≡ found.at = sym any.3 ∙ sound (get_or xs any.0 any.1) found.at found.passes in (
        length found.front,
        found.at,
        omega (arith, ap length found.is, length-append found.front (found.at ∷ found.back)),
        ap (λ (l : List X). get_or l (length found.front) found.at) found.is ∙ get_or_at found.front found.at found.back found.at (length found.front) refl,
        subst P is any.4,
      )

  pub all_moved : All P ys → All P xs
  all_moved all k d within =
      let found = member_moved k d within in
      let place : get_or ys (length found.front) d ≡ found.at =
      ap (λ (l : List X). get_or l (length found.front) d) found.is ∙ get_or_at found.front found.at found.back d (length found.front) refl in
      let inside : length found.front < length ys = omega (arith, ap length found.is, length-append found.front (found.at ∷ found.back)) in
      subst P (place ∙ sym (sound (get_or xs k d) found.at found.passes)) (all (length found.front) d inside)
