-- Windows that are listed by their ends: what is listed once some left, and once one more came.
use Rattle.std.proofs.Common.{◌≡◌, ◌⊎◌, inl, inr, ℕ, zero, suc, ◌+◌, ◌<◌, ◌≤◌, ◌==◌, ℤ, ◌≤ℤ◌, ◌<ℤ◌, Bool, true, false, cond, List, [], ◌∷◌, ◌++◌, length, get_or, take, Option, Some, None, refl, sym, ap, subst, ◌∙◌, arith}
use Rattle.std.specs.Prelude.{◌&&◌, ◌||◌, int_lt, not, slice_get, Contains}
use Rattle.std.specs.BTreeMap.{BTreeMap}
use Rattle.std.specs.List.{All, count_by, list_any}
use Rattle.std.specs.Ordering.{int_cmp, is_eq}
use Rattle.std.proofs.lemmas.Bool.{and_from, and_parts, cases_Bool, false≢true, or_cases, or_left, or_right}
use Rattle.std.proofs.lemmas.Bool.Decides.{Decides-eqb}
use Rattle.std.proofs.lemmas.Cmp.{by_ranked, int_cmp_total, int_ranked, tied_itself}
use Rattle.std.proofs.lemmas.Int.{by_lt_z, ints}
use Rattle.std.proofs.lemmas.List.{take_more}
use Rattle.std.proofs.lemmas.List.Elements.{All-contains, All-nil, All-push, Contains-append_left, Contains-push}
use Rattle.std.proofs.lemmas.List.Sums.{sum_by-cons}
use Rattle.std.proofs.lemmas.Map.Entries.{place_from_lookup}
use Rattle.beam_values.specs.Firing.{is_expired}
use Rattle.beam_values.specs.Intervals.{Interval}
use Rattle.beam_values.specs.Sessions.{IsApart, IsNonEmpty, LiesIn}
use Rattle.beam_values.specs.Spans.{same_span, lies_in}
use Rattle.beam_values.specs.declared.plan.Trigger.{Trigger}
use Rattle.group_cells.specs.KnownWindows.{overlaps, window_at, AreListed, AreListedApart, AreMet, IsFirstExpired, IsNextAfter, IsWithout}
use Rattle.group_cells.specs.declared.groups.standing.Standing.{Standing}
use Rattle.group_cells.proofs.WindowTests.{apart_from, lies_from, lt_from, lt_test, overlap_from, overlap_test, span_itself, span_sound}

-- ---- keys

pub end_itself : (a : ℤ) → is_eq (int_cmp a a) ≡ true
end_itself a = ap is_eq (tied_itself int_cmp_total a)

pub end_same : (a b : ℤ) → is_eq (int_cmp a b) ≡ true → a ≡ b
end_same a b e =
    by_ranked (a <ℤ b) (a ≡ b) (b <ℤ a) (int_cmp a b) (int_ranked a b (int_cmp a b) refl) (λ o _. absurd (false≢true (sym (ap is_eq o) ∙ e))) (λ _ same. same)
    (λ o _. absurd (false≢true (sym (ap is_eq o) ∙ e)))

pub end_other : (a b : ℤ) → (a ≡ b → ⊥) → is_eq (int_cmp a b) ≡ false
end_other a b other = elim (cases_Bool (is_eq (int_cmp a b))) [ inl on ↦ absurd (other (end_same a b on)) | inr off ↦ off ]

pub some_back : {X : Type 0} (x y : X) → Some x ≡ Some y → x ≡ y
some_back x y e = cc

pub not_some : {X : Type 0} (x : X) → None ≡ Some x → ⊥
not_some x e = absurd (cc)

pub one_there : (m : BTreeMap ℤ Standing) (e : ℤ) (s t : Standing) → window_at m e ≡ Some s → window_at m e ≡ Some t → s ≡ t
one_there m e s t p q = some_back s t (sym p ∙ q)

-- ---- some leave

pub apart_less : (m n : BTreeMap ℤ Standing) → AreListedApart m → ((e : ℤ) (t : Standing) → window_at n e ≡ Some t → window_at m e ≡ Some t) → AreListedApart n
apart_less m n h kept = record {
  ends = λ e t there. h.ends e t (kept e t there);
  apart = λ a b s t first second less. h.apart a b s t (kept a s first) (kept b t second) less;
}

not_gone : (b : Bool) → not b ≡ true → b ≡ false
not_gone true e = absurd (false≢true e)
not_gone false e = refl

pub listed_without : (test : ℕ → Interval → Bool) (gone : Interval → Bool) (m n : BTreeMap ℤ Standing) → AreListed test m → IsWithout gone m n → AreListed (λ p s. test p s && not (gone s)) n
listed_without test gone m n h without = record {
  apart = apart_less m n h.apart (λ e t there. (without.kept e t there).0);
  all = λ p s on.
      let parts = and_parts (test p s) (not (gone s)) on in
      without.left s.end (record { span = s; place = p }) (h.all p s parts.0) (not_gone (gone s) parts.1);
  only = λ e t there.
      let was = without.kept e t there in
      and_from (test t.place t.span) (not (gone t.span)) (h.only e t was.0) (ap not was.1);
}

-- the same under another test
pub listed_as : (test other : ℕ → Interval → Bool) (m : BTreeMap ℤ Standing) → ((p : ℕ) (s : Interval) → test p s ≡ other p s) → AreListed test m → AreListed other m
listed_as test other m same h = record {
  apart = h.apart;
  all = λ p s on. h.all p s (same p s ∙ on);
  only = λ e t there. sym (same t.place t.span) ∙ h.only e t there;
}

module _ (m n : BTreeMap ℤ Standing) (end : ℤ) (removed : (q : ℤ) → window_at n q ≡ cond (is_eq (int_cmp end q)) None (window_at m q)) where
  pub removed_kept : (e : ℤ) (t : Standing) → window_at n e ≡ Some t → window_at m e ≡ Some t
  removed_kept e t there = by (is_eq (int_cmp end e)) (sym (removed e) ∙ there)
    where
      by : (b : Bool) → cond b None (window_at m e) ≡ Some t → window_at m e ≡ Some t
      by true h = absurd (not_some t h)
      by false h = h

  pub removed_left : (e : ℤ) (t : Standing) → window_at m e ≡ Some t → (end ≡ e → ⊥) → window_at n e ≡ Some t
  removed_left e t there other = removed e ∙ ap (λ b. cond b None (window_at m e)) (end_other end e other) ∙ there

-- those that expired left
pub expired_left : (trigger : Trigger) (mark : ℤ) (old new : BTreeMap ℤ Standing) → AreListedApart old
    → ((e : ℤ) (t : Standing) → window_at new e ≡ Some t → window_at old e ≡ Some t)
    → ((e : ℤ) (t : Standing) → window_at old e ≡ Some t → is_expired trigger e mark ≡ false → window_at new e ≡ Some t)
    → IsFirstExpired trigger mark new None → IsWithout (λ s. is_expired trigger s.end mark) old new
expired_left trigger mark old new apart kept left none = record {
  kept = λ e t there. (kept e t there, ap (λ x. is_expired trigger x mark) (apart.ends e t (kept e t there)).0 ∙ none e t there);
  left = λ e t there off. left e t there (ap (λ x. is_expired trigger x mark) (sym (apart.ends e t there).0) ∙ off);
}

-- those that are met left, one after another
abbrev pub is_among : List Standing → ℤ → Bool
is_among met e = list_any (λ t. is_eq (int_cmp t.span.end e)) met

pub among_from : (met : List Standing) (t : Standing) → Contains met t → is_among met t.span.end ≡ true
among_from [] t c = absurd (let less = c.1 in omega arith)
among_from (s ∷ met) t c = by c.0 c.1 c.2 (among_from met t)
  where
    by : (k : ℕ) → k < length (s ∷ met) → get_or (s ∷ met) k t ≡ t → (Contains met t → is_among met t.span.end ≡ true) → is_among (s ∷ met) t.span.end ≡ true
    by zero less is ih = or_left (is_eq (int_cmp s.span.end t.span.end)) (is_among met t.span.end) (ap (λ (x : Standing). is_eq (int_cmp x.span.end t.span.end)) is ∙ end_itself t.span.end)
    by (suc k) less is ih = or_right (is_eq (int_cmp s.span.end t.span.end)) (is_among met t.span.end) (ih (k, omega (arith, less), is))

among_of : (met : List Standing) (e : ℤ) → is_among met e ≡ true → (s : Standing) × Contains met s × (s.span.end ≡ e)
among_of [] e on = absurd (false≢true on)
among_of (s ∷ met) e on = by (or_cases (is_eq (int_cmp s.span.end e)) (is_among met e) on) (among_of met e)
  where
    by : (is_eq (int_cmp s.span.end e) ≡ true) ⊎ (is_among met e ≡ true) → (is_among met e ≡ true → (x : Standing) × Contains met x × (x.span.end ≡ e))
        → (x : Standing) × Contains (s ∷ met) x × (x.span.end ≡ e)
    by (inl here) ih = (s, (0, omega arith, refl), end_same s.span.end e here)
    by (inr later) ih =
        let found = ih later in
        let at = found.1 in
        (found.0, (suc at.0, omega (arith, at.1), at.2), found.2)

pub met_left : (span : Interval) (old new : BTreeMap ℤ Standing) (met : List Standing) → AreListedApart old → AreMet span old met
    → ((e : ℤ) → window_at new e ≡ cond (is_among met e) None (window_at old e)) → IsWithout (overlaps span) old new
met_left span old new met apart are left = record {
  kept = λ e t there. keep e t there (is_among met e) refl;
  left = λ e t there off. leave e t there off (is_among met e) refl;
}
  where
    keep : (e : ℤ) (t : Standing) → window_at new e ≡ Some t → (b : Bool) → is_among met e ≡ b → (window_at old e ≡ Some t) × (overlaps span t.span ≡ false)
    keep e t there true on = absurd (not_some t (sym (left e ∙ ap (λ b. cond b None (window_at old e)) on) ∙ there))
    keep e t there false off =
        let was : window_at old e ≡ Some t = sym (left e ∙ ap (λ b. cond b None (window_at old e)) off) ∙ there in (
          was,
          elim (cases_Bool (overlaps span t.span)) [
            | inl on ↦
                let among = among_from met t (are.whole e t was on) in
                let no_ : false ≡ true = sym off ∙ ap (is_among met) (sym (apart.ends e t was).0) ∙ among in
                absurd (false≢true no_)
            | inr none ↦ none
          ],
        )

    leave : (e : ℤ) (t : Standing) → window_at old e ≡ Some t → overlaps span t.span ≡ false → (b : Bool) → is_among met e ≡ b → window_at new e ≡ Some t
    leave e t there off true on =
        let found = among_of met e on in
        let s = found.0 in
        let each = All-contains (λ (x : Standing). (window_at old x.span.end ≡ Some x) × (overlaps span x.span ≡ true)) met s are.each found.1 in
        let same : s ≡ t = one_there old e s t (subst (λ x. window_at old x ≡ Some s) found.2 each.0) there in
        let no_ : false ≡ true = sym off ∙ ap (λ (x : Standing). overlaps span x.span) (sym same) ∙ each.1 in
        absurd (false≢true no_)
    leave e t there off false none = left e ∙ ap (λ b. cond b None (window_at old e)) none ∙ there

-- one more of them leaves
pub among_more : (items : List Standing) (i : ℕ) (t : Standing) (old m n : BTreeMap ℤ Standing) → i < length items → t ≡ get_or items i t
    → ((e : ℤ) → window_at m e ≡ cond (is_among (take i items) e) None (window_at old e)) → ((q : ℤ) → window_at n q ≡ cond (is_eq (int_cmp t.span.end q)) None (window_at m q))
    → (e : ℤ) → window_at n e ≡ cond (is_among (take (i + 1) items) e) None (window_at old e)
among_more items i t old m n less is before removed e =
    removed e ∙ ap (λ o. cond (is_eq (int_cmp t.span.end e)) None o) (before e) ∙ both (is_eq (int_cmp t.span.end e)) (is_among (take i items) e)
    ∙ ap (λ b. cond b None (window_at old e)) (sym longer)
  where
    both : (a b : Bool) → cond a None (cond b None (window_at old e)) ≡ cond (b || a) None (window_at old e)
    both true true = refl
    both true false = refl
    both false true = refl
    both false false = refl

    joined : (xs : List Standing) → list_any (λ x. is_eq (int_cmp x.span.end e)) (xs ++ t ∷ []) ≡ (list_any (λ x. is_eq (int_cmp x.span.end e)) xs || is_eq (int_cmp t.span.end e))
    joined [] = or_false (is_eq (int_cmp t.span.end e))
      where
        or_false : (b : Bool) → (b || false) ≡ b
        or_false true = refl
        or_false false = refl
    joined (x ∷ xs) = ap (λ b. is_eq (int_cmp x.span.end e) || b) (joined xs) ∙ sym (or_assoc (is_eq (int_cmp x.span.end e)) (list_any (λ x. is_eq (int_cmp x.span.end e)) xs) (is_eq (int_cmp t.span.end e)))
      where
        or_assoc : (a b c : Bool) → ((a || b) || c) ≡ (a || (b || c))
        or_assoc true b c = refl
        or_assoc false b c = refl

    longer : is_among (take (i + 1) items) e ≡ (is_among (take i items) e || is_eq (int_cmp t.span.end e))
    longer = ap (λ l. is_among l e) (take_more items i t less ∙ ap (λ x. take i items ++ x ∷ []) (sym is)) ∙ joined (take i items)

-- ---- one more comes

module _ (test : ℕ → Interval → Bool) (m n : BTreeMap ℤ Standing) (span : Interval) (place : ℕ) (h : AreListed test m) (some : IsNonEmpty span)
    (alone : (e : ℤ) (t : Standing) → window_at m e ≡ Some t → overlaps span t.span ≡ false)
    (put : (q : ℤ) → window_at n q ≡ cond (is_eq (int_cmp span.end q)) (Some (record { span = span; place = place })) (window_at m q)) where
  -- what is listed then is it, or was listed before
  cases : (e : ℤ) (t : Standing) → window_at n e ≡ Some t → ((span.end ≡ e) × (t ≡ record { span = span; place = place })) ⊎ (window_at m e ≡ Some t)
  cases e t there = by (is_eq (int_cmp span.end e)) refl (sym (put e) ∙ there)
    where
      by : (b : Bool) → is_eq (int_cmp span.end e) ≡ b → cond b (Some (record { span = span; place = place })) (window_at m e) ≡ Some t
          → ((span.end ≡ e) × (t ≡ record { span = span; place = place })) ⊎ (window_at m e ≡ Some t)
      by true on is = inl (end_same span.end e on, sym (some_back (record { span = span; place = place }) t is))
      by false off is = inr is

  here : window_at n span.end ≡ Some (record { span = span; place = place })
  here = put span.end ∙ ap (λ b. cond b (Some (record { span = span; place = place })) (window_at m span.end)) (end_itself span.end)

  -- none of the others ends with it
  ends_apart : (e : ℤ) (t : Standing) → window_at m e ≡ Some t → span.end ≡ e → ⊥
  ends_apart e t there same = clash t.span (ends.0 ∙ sym same) ends.1 (apart_from span t.span (alone e t there))
    where
      ends : (t.span.end ≡ e) × IsNonEmpty t.span
      ends = h.apart.ends e t there

      clash : (s : Interval) → s.end ≡ span.end → IsNonEmpty s → IsApart span s → ⊥
      clash s at filled (inl before) = omega (arith, ints)
      clash s at filled (inr behind) = omega (arith, ints)

  other : (e : ℤ) (t : Standing) → window_at m e ≡ Some t → window_at n e ≡ Some t
  other e t there = put e ∙ ap (λ b. cond b (Some (record { span = span; place = place })) (window_at m e)) (end_other span.end e (ends_apart e t there)) ∙ there

  still_apart : AreListedApart n
  still_apart = record {
    ends = λ e t there. elim (cases e t there) [
      | inl new ↦ subst (λ (x : Standing). (x.span.end ≡ e) × IsNonEmpty x.span) (sym new.1) (new.0, some)
      | inr old ↦ h.apart.ends e t old
    ];
    apart = λ a b s t first second less. by a b s t (cases a s first) (cases b t second) less;
  }
    where
      behind : (s : Interval) (b : ℤ) → s.end ≡ b → span.end <ℤ b → IsApart span s → span.end ≤ℤ s.start
      behind s b at less (inl before) = before
      behind s b at less (inr after) = let filled = some in omega (arith, ints)

      before_it : (s : Interval) (a : ℤ) → s.end ≡ a → IsNonEmpty s → a <ℤ span.end → IsApart span s → a ≤ℤ span.start
      before_it s a at filled less (inl before) = omega (arith, ints)
      before_it s a at filled less (inr after) = omega (arith, ints)

      by : (a b : ℤ) (s t : Standing) → ((span.end ≡ a) × (s ≡ record { span = span; place = place })) ⊎ (window_at m a ≡ Some s)
          → ((span.end ≡ b) × (t ≡ record { span = span; place = place })) ⊎ (window_at m b ≡ Some t) → a <ℤ b → a ≤ℤ t.span.start
      by a b s t (inl p) (inl q) less = let x = p.0 in let y = q.0 in absurd (omega (arith, ints))
      by a b s t (inl p) (inr old) less =
          let ends = h.apart.ends b t old in
          subst (λ z. z ≤ℤ t.span.start) p.0 (behind t.span b ends.0 (subst (λ z. z <ℤ b) (sym p.0) less) (apart_from span t.span (alone b t old)))
      by a b s t (inr old) (inl q) less =
          let ends = h.apart.ends a s old in
          subst (λ (x : Standing). a ≤ℤ x.span.start) (sym q.1) (before_it s.span a ends.0 ends.1 (subst (λ z. a <ℤ z) (sym q.0) less) (apart_from span s.span (alone a s old)))
      by a b s t (inr p) (inr q) less = h.apart.apart a b s t p q less

  pub listed_with : AreListed (λ p s. test p s || (p == place && same_span span s)) n
  listed_with = record {
    apart = still_apart;
    all = λ p s on. elim (or_cases (test p s) (p == place && same_span span s) on) [
      | inl old ↦ other s.end (record { span = s; place = p }) (h.all p s old)
      | inr new ↦
          let parts = and_parts (p == place) (same_span span s) new in
          let at : p ≡ place = (Decides-eqb p place).0 parts.0 in
          let is : span ≡ s = span_sound span s parts.1 in
          ap (window_at n) (ap (λ (x : Interval). x.end) (sym is)) ∙ here ∙ (λ i. Some (record { span = is i; place = sym at i }))
    ];
    only = λ e t there. elim (cases e t there) [
      | inl new ↦
          subst (λ (x : Standing). (test x.place x.span || (x.place == place && same_span span x.span)) ≡ true) (sym new.1)
          (or_right (test place span) (place == place && same_span span span) (and_from (place == place) (same_span span span) ((Decides-eqb place place).1 refl) (span_itself span)))
      | inr old ↦ or_left (test t.place t.span) (t.place == place && same_span span t.span) (h.only e t old)
    ];
  }

-- ---- what is found

cases_z : (x y : ℤ) → x ≤ℤ y → (x <ℤ y) ⊎ (x ≡ y)
cases_z x y le = by_ranked (x <ℤ y) (x ≡ y) (y <ℤ x) (int_cmp x y) (int_ranked x y (int_cmp x y) refl) (λ _ l. inl l) (λ _ q. inr q) (λ _ more. absurd (omega (arith, ints)))

module _ (m : BTreeMap ℤ Standing) (span : Interval) (apart : AreListedApart m) where
  -- one that ends by a time that isn't after the start overlaps nothing of the window
  early : (e : ℤ) (t : Standing) → window_at m e ≡ Some t → e ≤ℤ span.start → overlaps span t.span ≡ true → ⊥
  early e t there upto on = clash t.span (apart.ends e t there).0 (overlap_from span t.span on).0
    where
      clash : (s : Interval) → s.end ≡ e → span.start <ℤ s.end → ⊥
      clash s at less = omega (arith, ints)

  -- nor one that ends with, or after, one that begins at the window's end or later
  late : (a e : ℤ) (first t : Standing) → window_at m a ≡ Some first → window_at m e ≡ Some t → span.end ≤ℤ first.span.start → a ≤ℤ e → overlaps span t.span ≡ true → ⊥
  late a e first t here there behind upto on = by (cases_z a e upto)
    where
      begins : t.span.start <ℤ span.end
      begins = (overlap_from span t.span on).1

      clash : (s f : Interval) → f.end ≡ a → IsNonEmpty f → span.end ≤ℤ f.start → s.start <ℤ span.end → a ≤ℤ s.start → ⊥
      clash s f at filled p q r = omega (arith, ints)

      same : (s f : Interval) → s.start ≡ f.start → span.end ≤ℤ f.start → s.start <ℤ span.end → ⊥
      same s f e p q = omega (arith, ints)

      by : (a <ℤ e) ⊎ (a ≡ e) → ⊥
      by (inl less) = clash t.span first.span (apart.ends a first here).0 (apart.ends a first here).1 behind begins (apart.apart a e first t here there less)
      by (inr equal) = same t.span first.span (ap (λ (x : Standing). x.span.start) (one_there m e t first there (subst (λ x. window_at m x ≡ Some first) equal here))) behind begins

  -- where the first that ends after the start begins at the end or later, none overlaps
  pub none_met : (o : Option (ℤ × Standing)) → IsNextAfter span.start m o → ((next : ℤ × Standing) → o ≡ Some next → span.end ≤ℤ next.1.span.start)
      → (e : ℤ) (t : Standing) → window_at m e ≡ Some t → overlaps span t.span ≡ false
  none_met o next behind e t there = elim (cases_Bool (overlaps span t.span)) [
    | inl on ↦ absurd (by o next behind on)
    | inr off ↦ off
  ]
    where
      after : overlaps span t.span ≡ true → span.start <ℤ e
      after on = subst (λ x. span.start <ℤ x) (apart.ends e t there).0 (overlap_from span t.span on).0

      by : (o : Option (ℤ × Standing)) → IsNextAfter span.start m o → ((next : ℤ × Standing) → o ≡ Some next → span.end ≤ℤ next.1.span.start) → overlaps span t.span ≡ true → ⊥
      by None none behind on = early e t there (none e t there) on
      by (Some first) h behind on = late first.0 e first.1 t h.0 there (behind first refl) (h.2 e t there (after on)) on

  -- the window in which another one lies is the first that ends after its start
  pub holder_is : (o : Option (ℤ × Standing)) → IsNonEmpty span → IsNextAfter span.start m o → (e : ℤ) (t : Standing) → window_at m e ≡ Some t → lies_in span t.span ≡ true → o ≡ Some (e, t)
  holder_is o some next e t there lies = by o next
    where
      inside : LiesIn span t.span
      inside = lies_from span t.span lies

      at : t.span.end ≡ e
      at = (apart.ends e t there).0

      later : (s : Interval) → s.end ≡ e → LiesIn span s → span.start <ℤ e
      later s q l = let a = l.0 in let b = l.1 in let filled = some in omega (arith, ints)

      none_ : e ≤ℤ span.start → span.start <ℤ e → ⊥
      none_ p q = omega (arith, ints)

      clash : (s : Interval) (a : ℤ) → LiesIn span s → a ≤ℤ s.start → span.start <ℤ a → ⊥
      clash s a l up after = let p = l.0 in omega (arith, ints)

      by : (o : Option (ℤ × Standing)) → IsNextAfter span.start m o → o ≡ Some (e, t)
      by None none = absurd (none_ (none e t there) (later t.span at inside))
      by (Some first) h = elim (cases_z first.0 e (h.2 e t there (later t.span at inside))) [
        | inl less ↦ absurd (clash t.span first.0 inside (apart.apart first.0 e first.1 t h.0 there less) h.1)
        | inr same ↦
            let one : first.1 ≡ t = one_there m e first.1 t (subst (λ x. window_at m x ≡ Some first.1) same h.0) there in
            (λ i. Some (same i, one i))
      ]

  -- and there is none where that isn't one
  pub no_holder : (o : Option (ℤ × Standing)) → IsNonEmpty span → IsNextAfter span.start m o → ((next : ℤ × Standing) → o ≡ Some next → lies_in span next.1.span ≡ false)
      → (e : ℤ) (t : Standing) → window_at m e ≡ Some t → lies_in span t.span ≡ false
  no_holder o some next off e t there = elim (cases_Bool (lies_in span t.span)) [
    | inl on ↦ absurd (false≢true (sym (off (e, t) (holder_is o some next e t there on)) ∙ on))
    | inr none ↦ none
  ]

  pub one_holder : (first : ℤ × Standing) → IsNonEmpty span → IsNextAfter span.start m (Some first) → (e : ℤ) (t : Standing) → window_at m e ≡ Some t → lies_in span t.span ≡ true → t ≡ first.1
  one_holder first some next e t there on = ap (λ (x : ℤ × Standing). x.1) (sym (some_back first (e, t) (holder_is (Some first) some next e t there on)))

-- ---- those that overlap a window, one after another

-- so far those are met that end by a time
pub record AreMetBy (span : Interval) (by_end : BTreeMap ℤ Standing) (after : ℤ) (met : List Standing) : Type 0 where
  pub from : span.start ≤ℤ after
  pub each : AreListedApart by_end → All (λ t. (window_at by_end t.span.end ≡ Some t) × (overlaps span t.span ≡ true)) met
  pub whole : AreListedApart by_end → (e : ℤ) (t : Standing) → window_at by_end e ≡ Some t → e ≤ℤ after → overlaps span t.span ≡ true → Contains met t

module _ (m : BTreeMap ℤ Standing) (span : Interval) where
  pub met_none : AreMetBy span m span.start []
  met_none = record {
    from = omega (arith, ints);
    each = λ apart. All-nil (λ (t : Standing). (window_at m t.span.end ≡ Some t) × (overlaps span t.span ≡ true));
    whole = λ apart e t there upto on. absurd (early m span apart e t there upto on);
  }

  pub met_more : (after : ℤ) (met : List Standing) (next : ℤ × Standing) → AreMetBy span m after met → IsNextAfter after m (Some next) → next.1.span.start <ℤ span.end → AreMetBy span m next.0 (met ++ next.1 ∷ [])
  met_more after met next h is less = record {
    from = onward span.start after next.0 h.from is.1;
    each = λ apart. All-push (λ (t : Standing). (window_at m t.span.end ≡ Some t) × (overlaps span t.span ≡ true)) met next.1 (h.each apart) (here apart);
    whole = λ apart e t there upto on. by apart e t there upto on (by_lt_z after e (λ more. inr more) (λ le. inl le));
  }
    where
      onward : (a b c : ℤ) → a ≤ℤ b → b <ℤ c → a ≤ℤ c
      onward a b c p q = omega (arith, ints)

      starts : (a b c d : ℤ) → a ≤ℤ b → b <ℤ c → d ≡ c → a <ℤ d
      starts a b c d p q e = omega (arith, ints)

      here : AreListedApart m → (window_at m next.1.span.end ≡ Some next.1) × (overlaps span next.1.span ≡ true)
      here apart =
          let ends = apart.ends next.0 next.1 is.0 in (
            subst (λ x. window_at m x ≡ Some next.1) (sym ends.0) is.0,
            overlap_test span next.1.span (starts span.start after next.0 next.1.span.end h.from is.1 ends.0, less),
          )

      equal : (a b : ℤ) → a ≤ℤ b → b ≤ℤ a → a ≡ b
      equal a b le ge = omega (arith, ints)

      by : AreListedApart m → (e : ℤ) (t : Standing) → window_at m e ≡ Some t → e ≤ℤ next.0 → overlaps span t.span ≡ true → (e ≤ℤ after) ⊎ (after <ℤ e) → Contains (met ++ next.1 ∷ []) t
      by apart e t there upto on (inl old) = Contains-append_left met (next.1 ∷ []) t (h.whole apart e t there old on)
      by apart e t there upto on (inr new) =
          let same : next.0 ≡ e = equal next.0 e (is.2 e t there new) upto in
          let one : next.1 ≡ t = one_there m e next.1 t (subst (λ x. window_at m x ≡ Some next.1) same is.0) there in
          subst (Contains (met ++ next.1 ∷ [])) one (Contains-push met next.1)

  pub met_all : (after : ℤ) (met : List Standing) (o : Option (ℤ × Standing)) → AreMetBy span m after met → IsNextAfter after m o
      → ((next : ℤ × Standing) → o ≡ Some next → span.end ≤ℤ next.1.span.start) → AreListedApart m → AreMet span m met
  met_all after met o h is behind apart = record {
    each = h.each apart;
    whole = λ e t there on. by e t there on (by_lt_z after e (λ more. inr more) (λ le. inl le)) o is behind;
  }
    where
      above : (a b : ℤ) → a ≤ℤ b → b <ℤ a → ⊥
      above a b p q = omega (arith, ints)

      by : (e : ℤ) (t : Standing) → window_at m e ≡ Some t → overlaps span t.span ≡ true → (e ≤ℤ after) ⊎ (after <ℤ e) → (o : Option (ℤ × Standing)) → IsNextAfter after m o
          → ((next : ℤ × Standing) → o ≡ Some next → span.end ≤ℤ next.1.span.start) → Contains met t
      by e t there on (inl old) o is behind = h.whole apart e t there old on
      by e t there on (inr new) None is behind = absurd (above e after (is e t there) new)
      by e t there on (inr new) (Some first) is behind = absurd (late m span apart first.0 e first.1 t is.0 there (behind first refl) (is.2 e t there new) on)

-- fewer ends are after a later one
abbrev pub ends_after : ℤ → BTreeMap ℤ Standing → ℕ
ends_after after m = count_by (λ e. int_lt after e.0) m.entries

fewer : {X : Type 0} (p q : X → Bool) (xs : List X) → ((x : X) → q x ≡ true → p x ≡ true) → count_by q xs ≤ count_by p xs
fewer p q [] less = omega arith
fewer p q (x ∷ xs) less = by (p x) refl (q x) refl (fewer p q xs less)
  where
    by : (a : Bool) → p x ≡ a → (b : Bool) → q x ≡ b → count_by q xs ≤ count_by p xs → count_by q (x ∷ xs) ≤ count_by p (x ∷ xs)
    by a e true f ih = let both = less x f in omega (arith, ih, sum_by-cons (λ y. cond (p y) 1 0) x xs, sum_by-cons (λ y. cond (q y) 1 0) x xs, ap {B = ℕ} (λ c. cond c 1 0) both, ap {B = ℕ} (λ c. cond c 1 0) f)
    by a e false f ih = omega (arith, ih, sum_by-cons (λ y. cond (p y) 1 0) x xs, sum_by-cons (λ y. cond (q y) 1 0) x xs, ap {B = ℕ} (λ c. cond c 1 0) f)

fewer_one : {X : Type 0} (p q : X → Bool) (xs : List X) (k : ℕ) (y : X) → ((x : X) → q x ≡ true → p x ≡ true) → slice_get xs k ≡ Some y → p y ≡ true → q y ≡ false → count_by q xs < count_by p xs
fewer_one p q [] k y less there on off = absurd (let x : None ≡ Some y = there in cc)
fewer_one p q (x ∷ xs) zero y less there on off =
    let is : x ≡ y = some_back x y there in
    omega (
      arith,
      fewer p q xs less,
      sum_by-cons (λ z. cond (p z) 1 0) x xs,
      sum_by-cons (λ z. cond (q z) 1 0) x xs,
      ap {B = ℕ} (λ z. cond (p z) 1 0) is,
      ap {B = ℕ} (λ z. cond (q z) 1 0) is,
      ap {B = ℕ} (λ c. cond c 1 0) on,
      ap {B = ℕ} (λ c. cond c 1 0) off,
    )
fewer_one p q (x ∷ xs) (suc k) y less there on off = by (q x) refl (fewer_one p q xs k y less there on off)
  where
    by : (b : Bool) → q x ≡ b → count_by q xs < count_by p xs → count_by q (x ∷ xs) < count_by p (x ∷ xs)
    by true f ih = let both = less x f in omega (arith, ih, sum_by-cons (λ z. cond (p z) 1 0) x xs, sum_by-cons (λ z. cond (q z) 1 0) x xs, ap {B = ℕ} (λ c. cond c 1 0) both, ap {B = ℕ} (λ c. cond c 1 0) f)
    by false f ih = omega (arith, ih, sum_by-cons (λ z. cond (p z) 1 0) x xs, sum_by-cons (λ z. cond (q z) 1 0) x xs, ap {B = ℕ} (λ c. cond c 1 0) f)

pub after_falls : (m : BTreeMap ℤ Standing) (after : ℤ) (next : ℤ × Standing) → IsNextAfter after m (Some next) → ends_after next.0 m < ends_after after m
after_falls m after next is =
    let at = place_from_lookup (λ k. is_eq (int_cmp next.0 k)) m.entries next.1 is.0 in
    let key : next.0 ≡ at.1 = end_same next.0 at.1 at.3 in
    fewer_one (λ (e : ℤ × Standing). int_lt after e.0) (λ (e : ℤ × Standing). int_lt next.0 e.0) m.entries at.0 (at.1, next.1)
    (λ e on. lt_test after e.0 (onward after next.0 e.0 is.1 (lt_from next.0 e.0 on))) at.2 (lt_test after at.1 (subst (λ x. after <ℤ x) key is.1))
    (ap (λ x. int_lt next.0 x) (sym key) ∙ itself next.0)
  where
    onward : (a b c : ℤ) → a <ℤ b → b <ℤ c → a <ℤ c
    onward a b c p q = omega (arith, ints)

    itself : (a : ℤ) → int_lt a a ≡ false
    itself a = grind (arith, ints)
