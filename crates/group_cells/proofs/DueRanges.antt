-- The keys of a node whose moments a mark has reached.
use Rattle.std.proofs.Common.{◌≡◌, ◌<◌, ◌≤◌, ◌^◌, ◌==◌, ◌&&◌, ℕ, ℤ, ◌≤ℤ◌, ◌<ℤ◌, Bool, true, false, cond, ◌||◌, List, [], ◌∷◌, map, refl, sym, ap, subst, ◌∙◌, arith}
use Rattle.std.specs.BTreeSet.{BTreeSet, contains, keys_between}
use Rattle.std.specs.BTreeMap.Range.{range_contains}
use Rattle.std.specs.Cmp.{IsTotalOrder}
use Rattle.std.specs.List.{Contains, filter, list_any}
use Rattle.std.specs.Ordering.{int_cmp, int_eq, is_eq, is_gt, nat_cmp, ordering_then}
use Rattle.std.specs.declared.cmp.Ordering.{Ordering}
use Rattle.std.specs.declared.cmp.Ordering.TheVariants.{Less, Equal, Greater}
use Rattle.std.specs.declared.ops.Bound.TheVariants.{Included}
use Rattle.std.proofs.lemmas.Bool.{and_parts, eqb-true, false≢true}
use Rattle.std.proofs.lemmas.Bool.Decides.{Decides-int_eq}
use Rattle.std.proofs.lemmas.Cmp.{by_ranked, int_cmp_total, int_ranked, nat_cmp_total, on_total, ranked, then_total}
use Rattle.std.proofs.lemmas.Int.{ints}
use Rattle.std.proofs.lemmas.List.Elements.{Contains-append_left, Contains-append_right, Contains-get_or}
use Rattle.std.proofs.lemmas.Map.Views.{range_contains-from_IsInRange}
use Rattle.beam_values.specs.Times.{least_time}
use Rattle.group_cells.specs.Due.{due_cmp}
use Rattle.group_cells.specs.declared.groups.due.DueKey.{DueKey}
use Rattle.group_cells.proofs.DueKeys.{same_due}

pub due_total : IsTotalOrder due_cmp
due_total =
    then_total (on_total (λ (k : DueKey). k.node) nat_cmp_total)
    (then_total (on_total (λ (k : DueKey). k.moment) int_cmp_total) (on_total (λ (k : DueKey). k.place) nat_cmp_total))

nat_upto : (a b : ℕ) → a ≤ b → is_gt (nat_cmp a b) ≡ false
nat_upto a b le =
    by_ranked (a < b) (a ≡ b) (b < a) (nat_cmp a b) (ranked a b (nat_cmp a b) refl) (λ e _. ap is_gt e) (λ e _. ap is_gt e) (λ e more. absurd (omega (arith, le, more)))

int_upto : (a b : ℤ) → a ≤ℤ b → is_gt (int_cmp a b) ≡ false
int_upto a b le =
    by_ranked (a <ℤ b) (a ≡ b) (b <ℤ a) (int_cmp a b) (int_ranked a b (int_cmp a b) refl) (λ e _. ap is_gt e) (λ e _. ap is_gt e)
    (λ e more. absurd (omega (arith, ints, le, more)))

then_upto : (o r : Ordering) → is_gt o ≡ false → is_gt r ≡ false → is_gt (ordering_then o r) ≡ false
then_upto Less r h k = refl
then_upto Equal r h k = k
then_upto Greater r h k = h

pub key_upto : (a b : DueKey) → a.node ≤ b.node → a.moment ≤ℤ b.moment → a.place ≤ b.place → is_gt (due_cmp a b) ≡ false
key_upto a b nodes moments places =
    then_upto (nat_cmp a.node b.node) (ordering_then (int_cmp a.moment b.moment) (nat_cmp a.place b.place)) (nat_upto a.node b.node nodes)
    (then_upto (int_cmp a.moment b.moment) (nat_cmp a.place b.place) (int_upto a.moment b.moment moments) (nat_upto a.place b.place places))

-- keys that tie are one
pub exact : (x y : DueKey) → is_eq (due_cmp x y) ≡ true → x ≡ y
exact x y e =
    let all = and_parts (x.node == y.node && x.place == y.place) (int_eq x.moment y.moment) (sym (same_due x y) ∙ e) in
    let at = and_parts (x.node == y.node) (x.place == y.place) all.0 in
    let node : x.node ≡ y.node = eqb-true x.node y.node at.0 in
    let place : x.place ≡ y.place = eqb-true x.place y.place at.1 in
    let moment : x.moment ≡ y.moment = (Decides-int_eq x.moment y.moment).0 all.1 in
    (λ i. record { node = node i; moment = moment i; place = place i })

found : (p : DueKey → Bool) (q : DueKey) → p q ≡ true → (ks : List DueKey) → list_any (λ k. is_eq (due_cmp q k)) ks ≡ true → Contains (map (λ k. k.place) (filter p ks)) q.place
found p q passes [] h = absurd (false≢true h)
found p q passes (k ∷ ks) h = by (is_eq (due_cmp q k)) refl h (λ e. found p q passes ks e)
  where
    places : List DueKey → List ℕ
    places l = map (λ k. k.place) l

    step : (b : Bool) → Contains (places (filter p ks)) q.place → Contains (places (cond b (k ∷ filter p ks) (filter p ks))) q.place
    step true c = Contains-append_right (k.place ∷ []) (places (filter p ks)) q.place c
    step false c = c

    by : (b : Bool) → is_eq (due_cmp q k) ≡ b → (b || list_any (λ k. is_eq (due_cmp q k)) ks) ≡ true
        → (list_any (λ k. is_eq (due_cmp q k)) ks ≡ true → Contains (places (filter p ks)) q.place) → Contains (places (cond (p k) (k ∷ filter p ks) (filter p ks))) q.place
    by true e _ _ =
        let same : q ≡ k = exact q k e in
        let here : p k ≡ true = ap p (sym same) ∙ passes in
        subst (λ (b : Bool). Contains (places (cond b (k ∷ filter p ks) (filter p ks))) q.place) (sym here)
        (subst (Contains (k.place ∷ places (filter p ks))) (ap (λ (j : DueKey). j.place) (sym same))
        (Contains-append_left (k.place ∷ []) (places (filter p ks)) k.place (Contains-get_or (k.place ∷ []) 0 k.place (omega arith))))
    by false e h ih = step (p k) (ih h)

pub key_found : (moments : BTreeSet DueKey) (first last_ q : DueKey) → contains due_cmp moments q ≡ true → is_gt (due_cmp first q) ≡ false → is_gt (due_cmp q last_) ≡ false
    → Contains (map (λ k. k.place) (keys_between due_cmp (Included first) (Included last_) moments)) q.place
key_found moments first last_ q there low high =
    found (range_contains due_cmp (Included first) (Included last_)) q (range_contains-from_IsInRange due_total (Included first) (Included last_) q (low, high)) moments.keys there

pub key_between : (moments : BTreeSet DueKey) (node : ℕ) (mark : ℤ) (first last_ q : DueKey)
    → first ≡ record { node = node; moment = least_time; place = 0 } → last_ ≡ record { node = node; moment = mark; place = 4294967295 }
    → q.node ≡ node → least_time ≤ℤ q.moment → q.moment ≤ℤ mark → q.place < 2 ^ 32 → contains due_cmp moments q ≡ true
    → Contains (map (λ k. k.place) (keys_between due_cmp (Included first) (Included last_) moments)) q.place
key_between moments node mark first last_ q from_ to_ at low high fits there =
    let bottom : DueKey = record { node = node; moment = least_time; place = 0 } in
    let top : DueKey = record { node = node; moment = mark; place = 4294967295 } in
    key_found moments first last_ q there
    (ap (λ k. is_gt (due_cmp k q)) from_ ∙ key_upto bottom q (omega (arith, at)) low (omega arith))
    (ap (λ k. is_gt (due_cmp q k)) to_ ∙ key_upto q top (omega (arith, at)) high (omega (arith, fits)))

pub keys_forward : (node : ℕ) (mark : ℤ) (first last_ : DueKey) → first ≡ record { node = node; moment = least_time; place = 0 }
    → last_ ≡ record { node = node; moment = mark; place = 4294967295 } → least_time ≤ℤ mark → is_gt (due_cmp first last_) ≡ false
keys_forward node mark first last_ from_ to_ le =
    let bottom : DueKey = record { node = node; moment = least_time; place = 0 } in
    let top : DueKey = record { node = node; moment = mark; place = 4294967295 } in
    (λ i. is_gt (due_cmp (from_ i) (to_ i))) ∙ key_upto bottom top (omega arith) le (omega arith)
