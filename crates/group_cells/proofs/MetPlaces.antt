-- The places of the windows that overlap another, ascending.
use Rattle.std.proofs.Common.{◌≡◌, ◌⊎◌, inl, inr, ℕ, zero, suc, ◌+◌, ◌<◌, ℤ, Bool, true, false, cond, List, [], ◌∷◌, ◌++◌, map, length, get_or, take, Some, refl, sym, ap, subst, ◌∙◌, arith, append-nil}
use Rattle.std.specs.Prelude.{◌↔◌, Contains}
use Rattle.std.specs.BTreeMap.{BTreeMap}
use Rattle.std.specs.BTreeSet.{insert_key}
use Rattle.std.specs.List.{All}
use Rattle.std.specs.List.Sorted.{IsStrictlySortedBy}
use Rattle.std.specs.Ordering.{match_ordering, nat_cmp}
use Rattle.std.specs.declared.cmp.Ordering.{Ordering}
use Rattle.std.specs.declared.cmp.Ordering.TheVariants.{Less, Equal, Greater}
use Rattle.std.proofs.lemmas.Cmp.{by_ranked, ranked}
use Rattle.std.proofs.lemmas.List.{length-take, map-append, take_more}
use Rattle.std.proofs.lemmas.List.Elements.{All-contains, All-push, Contains-append_cases, Contains-append_left, Contains-append_right, Contains-push}
use Rattle.beam_values.specs.Intervals.{Interval}
use Rattle.beam_values.specs.Sessions.{IsNonEmpty}
use Rattle.beam_values.specs.declared.cell.Cell.{Cell}
use Rattle.beam_values.specs.declared.value.Value.{Value}
use Rattle.beam_model.specs.Panes.{GroupRules}
use Rattle.group_cells.specs.KnownWindows.{meeting_places, meets, overlaps, places_of, window_at, AreListed, AreMet, ArePlacesMet}
use Rattle.group_cells.specs.declared.groups.standing.Standing.{Standing}
use Rattle.group_cells.proofs.StandingPlaces.{places_push}

-- ---- members of what is mapped

pub map_has : {X Y : Type 0} (f : X → Y) (xs : List X) (x : X) → Contains xs x → Contains (map f xs) (f x)
map_has f [] x c = absurd (let less = c.1 in omega arith)
map_has f (y ∷ xs) x c = by c.0 c.1 c.2 (map_has f xs x)
  where
    by : (k : ℕ) → k < length (y ∷ xs) → get_or (y ∷ xs) k x ≡ x → (Contains xs x → Contains (map f xs) (f x)) → Contains (map f (y ∷ xs)) (f x)
    by zero less is ih = (zero, omega arith, ap f is)
    by (suc k) less is ih = Contains-append_right (f y ∷ []) (map f xs) (f x) (ih (k, omega arith, is))

pub has_map : {X Y : Type 0} (f : X → Y) (xs : List X) (y : Y) → Contains (map f xs) y → (x : X) × Contains xs x × (f x ≡ y)
has_map f [] y c = absurd (let less = c.1 in omega arith)
has_map {X} f (x ∷ xs) y c = elim (Contains-append_cases (f x ∷ []) (map f xs) y c) [
  | inl here ↦ first here.0 here.1 here.2
  | inr later ↦ (let found = has_map f xs y later in (found.0, Contains-append_right (x ∷ []) xs found.0 found.1, found.2))
]
  where
    first : (k : ℕ) → k < 1 → get_or (f x ∷ []) k y ≡ y → (z : X) × Contains (x ∷ xs) z × (f z ≡ y)
    first zero less is = (x, (zero, omega arith, refl), is)
    first (suc k) less is = absurd (omega arith)

one_of : {X : Type 0} (x y : X) → Contains (x ∷ []) y → x ≡ y
one_of x y c = by c.0 c.1 c.2
  where
    by : (k : ℕ) → k < 1 → get_or (x ∷ []) k y ≡ y → x ≡ y
    by zero less is = is
    by (suc k) less is = absurd (omega arith)

-- ---- a number is put into a set

tied : (a b : ℕ) → nat_cmp a b ≡ Equal → a ≡ b
tied a b e =
    by_ranked (a < b) (a ≡ b) (b < a) (nat_cmp a b) (ranked a b (nat_cmp a b) refl) (λ f _. let no_ : Less ≡ Equal = sym f ∙ e in absurd (cc)) (λ _ same. same)
    (λ f _. let no_ : Greater ≡ Equal = sym f ∙ e in absurd (cc))

pub has_insert : (ks : List ℕ) (k p : ℕ) → Contains (insert_key nat_cmp ks k) p → Contains ks p ⊎ (k ≡ p)
has_insert [] k p c = inr (one_of k p c)
has_insert (x ∷ ks) k p c = by (nat_cmp k x) c (has_insert ks k p)
  where
    by : (o : Ordering) → Contains (match_ordering o (k ∷ x ∷ ks) (x ∷ ks) (x ∷ insert_key nat_cmp ks k)) p → (Contains (insert_key nat_cmp ks k) p → Contains ks p ⊎ (k ≡ p))
        → Contains (x ∷ ks) p ⊎ (k ≡ p)
    by Less c ih = elim (Contains-append_cases (k ∷ []) (x ∷ ks) p c) [ inl here ↦ inr (one_of k p here) | inr later ↦ inl later ]
    by Equal c ih = inl c
    by Greater c ih = elim (Contains-append_cases (x ∷ []) (insert_key nat_cmp ks k) p c) [
      | inl here ↦ inl (Contains-append_left (x ∷ []) ks p here)
      | inr later ↦ elim (ih later) [ inl old ↦ inl (Contains-append_right (x ∷ []) ks p old) | inr new ↦ inr new ]
    ]

pub insert_has : (ks : List ℕ) (k p : ℕ) → Contains ks p ⊎ (k ≡ p) → Contains (insert_key nat_cmp ks k) p
insert_has [] k p (inl c) = absurd (let less = c.1 in omega arith)
insert_has [] k p (inr e) = (zero, omega arith, e)
insert_has (x ∷ ks) k p h = by (nat_cmp k x) refl h (λ g. insert_has ks k p g)
  where
    by : (o : Ordering) → nat_cmp k x ≡ o → Contains (x ∷ ks) p ⊎ (k ≡ p) → (Contains ks p ⊎ (k ≡ p) → Contains (insert_key nat_cmp ks k) p)
        → Contains (match_ordering o (k ∷ x ∷ ks) (x ∷ ks) (x ∷ insert_key nat_cmp ks k)) p
    by Less e (inl c) ih = Contains-append_right (k ∷ []) (x ∷ ks) p c
    by Less e (inr same) ih = (zero, omega arith, same)
    by Equal e (inl c) ih = c
    by Equal e (inr same) ih = (zero, omega arith, sym (tied k x e) ∙ same)
    by Greater e (inl c) ih = elim (Contains-append_cases (x ∷ []) ks p c) [
      | inl here ↦ Contains-append_left (x ∷ []) (insert_key nat_cmp ks k) p here
      | inr later ↦ Contains-append_right (x ∷ []) (insert_key nat_cmp ks k) p (ih (inl later))
    ]
    by Greater e (inr same) ih = Contains-append_right (x ∷ []) (insert_key nat_cmp ks k) p (ih (inr same))

-- one more window's place is put in
pub placed_more : (met : List Standing) (i : ℕ) (w : Standing) (old new : List ℕ) → i < length met → w ≡ get_or met i w → new ≡ insert_key nat_cmp old w.place
    → ((p : ℕ) → Contains old p ↔ Contains (places_of (take i met)) p) → (p : ℕ) → Contains new p ↔ Contains (places_of (take (i + 1) met)) p
placed_more met i w old new less is put same p = (to, from)
  where
    longer : places_of (take (i + 1) met) ≡ places_of (take i met) ++ w.place ∷ []
    longer = ap places_of (take_more met i w less ∙ ap (λ x. take i met ++ x ∷ []) (sym is)) ∙ map-append (λ (x : Standing). x.place) (take i met) (w ∷ [])

    to : Contains new p → Contains (places_of (take (i + 1) met)) p
    to c = subst (λ (l : List ℕ). Contains l p) (sym longer) (by (has_insert old w.place p (subst (λ (l : List ℕ). Contains l p) put c)))
      where
        by : Contains old p ⊎ (w.place ≡ p) → Contains (places_of (take i met) ++ w.place ∷ []) p
        by (inl before) = Contains-append_left (places_of (take i met)) (w.place ∷ []) p ((same p).0 before)
        by (inr e) = subst (Contains (places_of (take i met) ++ w.place ∷ [])) e (Contains-push (places_of (take i met)) w.place)

    from : Contains (places_of (take (i + 1) met)) p → Contains new p
    from c = subst (λ (l : List ℕ). Contains l p) (sym put) (insert_has old w.place p (by (Contains-append_cases (places_of (take i met)) (w.place ∷ []) p (subst (λ (l : List ℕ). Contains l p) longer c))))
      where
        by : Contains (places_of (take i met)) p ⊎ Contains (w.place ∷ []) p → Contains old p ⊎ (w.place ≡ p)
        by (inl before) = inl ((same p).1 before)
        by (inr here) = inr (one_of w.place p here)

-- ---- the places of those that are met

pub places_from_met : (test : ℕ → Interval → Bool) (m : BTreeMap ℤ Standing) (span : Interval) (met : List Standing) (places : List ℕ) → AreListed test m → AreMet span m met
    → IsStrictlySortedBy nat_cmp places → ((p : ℕ) → Contains places p ↔ Contains (places_of met) p) → ArePlacesMet test span places
places_from_met test m span met places h are ascend same = record {
  ascend = ascend;
  each = λ p c.
      let found = has_map (λ (x : Standing). x.place) met p ((same p).0 c) in
      let t = found.0 in
      let each = All-contains (λ (x : Standing). (window_at m x.span.end ≡ Some x) × (overlaps span x.span ≡ true)) met t are.each found.1 in
      (t.span, subst (λ q. test q t.span ≡ true) found.2 (h.only t.span.end t each.0), each.1);
  whole = λ p s on over. (same p).1 (map_has (λ (x : Standing). x.place) met (record { span = s; place = p }) (are.whole s.end (record { span = s; place = p }) (h.all p s on) over));
}

-- ---- where all cells are looked at

module _ (cells : List Cell) (i : ℕ) (cell : Cell) (less : i < length cells) (is : cell ≡ get_or cells i cell) where
  longer : (rules : GroupRules) (mark : ℤ) (node : ℕ) (key : Value) (span : Interval) → meeting_places rules mark node key span (take (i + 1) cells)
      ≡ meeting_places rules mark node key span (take i cells) ++ cond (meets rules mark node key span cell) (i ∷ []) []
  longer rules mark node key span =
      ap (meeting_places rules mark node key span) (take_more cells i cell less ∙ ap (λ x. take i cells ++ x ∷ []) (sym is))
      ∙ places_push (meets rules mark node key span) cell (take i cells) 0 i (omega (arith, length-take i cells))

  pub filled_more : IsNonEmpty cell.span → All (λ c. IsNonEmpty c.span) (take i cells) → All (λ c. IsNonEmpty c.span) (take (i + 1) cells)
  filled_more some before =
      subst (All (λ (c : Cell). IsNonEmpty c.span)) (sym (take_more cells i cell less ∙ ap (λ x. take i cells ++ x ∷ []) (sym is))) (All-push (λ (c : Cell). IsNonEmpty c.span) (take i cells) cell before some)

  pub meeting_yes : (rules : GroupRules) (mark : ℤ) (node : ℕ) (key : Value) (span : Interval) (place : ℕ) (places new : List ℕ) → new ≡ places ++ place ∷ [] → place ≡ i → meets rules mark node key span cell ≡ true → places ≡ meeting_places rules mark node key span (take i cells)
      → new ≡ meeting_places rules mark node key span (take (i + 1) cells)
  meeting_yes rules mark node key span place places new put at on before =
      put ∙ (λ j. before j ++ at j ∷ []) ∙ sym (longer rules mark node key span ∙ ap (λ b. meeting_places rules mark node key span (take i cells) ++ cond b (i ∷ []) []) on)

  pub meeting_no : (rules : GroupRules) (mark : ℤ) (node : ℕ) (key : Value) (span : Interval) (places : List ℕ) → meets rules mark node key span cell ≡ false → places ≡ meeting_places rules mark node key span (take i cells)
      → places ≡ meeting_places rules mark node key span (take (i + 1) cells)
  meeting_no rules mark node key span places off before =
      before ∙ sym (longer rules mark node key span ∙ ap (λ b. meeting_places rules mark node key span (take i cells) ++ cond b (i ∷ []) []) off ∙ append-nil (meeting_places rules mark node key span (take i cells)))
