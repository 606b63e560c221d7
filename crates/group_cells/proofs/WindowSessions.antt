-- Sessions over open windows and own ones, one window after another.
use Rattle.std.proofs.Common.{◌≡◌, ◌⊎◌, inl, inr, ℕ, ◌+◌, ◌<◌, ◌≤◌, ◌≤ℤ◌, ◌<ℤ◌, Bool, true, false, List, [], ◌∷◌, ◌++◌, length, get_or, take, refl, sym, ap, subst, ◌∙◌, arith, append_assoc, append-nil, length-append, Result}
use Rattle.std.specs.Prelude.{Contains, ◌==◌, MatchOption, Option, Some, None, Ok, Err, IfOk, ⊤, option_to_list}
use Rattle.std.specs.List.{All, AllWithin, Any}
use Rattle.std.specs.List.Sorted.{IsPermutation}
use Rattle.std.specs.Ordering.{ordering_index}
use Rattle.std.specs.declared.cmp.Ordering.{Ordering}
use Rattle.std.specs.declared.cmp.Ordering.TheVariants.{Less, Equal, Greater}
use Rattle.std.proofs.lemmas.Cmp.{nat_list_cmp_total, tied_itself}
use Rattle.std.proofs.lemmas.List.{get_or_default, take_more}
use Rattle.std.proofs.lemmas.List.Quantifiers.{Any-push}
use Rattle.std.proofs.lemmas.Bool.{cases_lt}
use Rattle.std.proofs.lemmas.Int.{ints}
use Rattle.std.proofs.lemmas.List.Elements.{All-nil, All-cons, All-append, All-push, All-weaker, Contains-get_or, Contains-append_right}
use Rattle.std.proofs.lemmas.List.Sorted.{Contains-permutation, IsPermutation-sym}
use Rattle.std.proofs.lemmas.Slice.Eq.{bytes_eq-Decides}
use Rattle.beam_values.proofs.Lexicographic.{same_where_tied}
use Rattle.beam_values.specs.Intervals.{Interval}
use Rattle.beam_values.specs.Orders.{value_cmp, bytes_cmp}
use Rattle.beam_values.specs.Sessions.{IsNonEmpty, LiesIn, IsSessionOf}
use Rattle.beam_values.specs.Spelling.{spelling}
use Rattle.beam_values.specs.declared.value.Value.{Value}
use Rattle.session_merge.specs.Merging.{AreApart, AreSessionsOf}
use Rattle.group_cells.specs.Placing.{is_same_key}
use Rattle.group_cells.specs.Rounds.{AreSessionsOver}
use Rattle.group_cells.proofs.Looking.{any_longer}

-- ---- keys are one where their order is a tie

keys_off : (a b : Value) → (value_cmp a b ≡ Equal → ⊥) → (t : Bool) → is_same_key a b ≡ t → false ≡ t
keys_off a b other false e = refl
keys_off a b other true e =
    absurd (other (ap (λ (x : List ℕ). bytes_cmp x (spelling b)) ((bytes_eq-Decides (spelling a) (spelling b)).0 e) ∙ tied_itself nat_list_cmp_total (spelling b)))

pub key_test : (a b : Value) (o : Ordering) → o ≡ value_cmp a b → (ordering_index o == 1) ≡ is_same_key a b
key_test a b Less is = keys_off a b (λ e. let no_ : Less ≡ Equal = is ∙ e in absurd (cc)) (is_same_key a b) refl
key_test a b Equal is = sym ((bytes_eq-Decides (spelling a) (spelling b)).1 (same_where_tied (spelling a) (spelling b) (sym is)))
key_test a b Greater is = keys_off a b (λ e. let no_ : Greater ≡ Equal = is ∙ e in absurd (cc)) (is_same_key a b) refl

-- ---- sessions

contains_none : (w : Interval) → Contains [] w → ⊥
contains_none w h = absurd (omega (arith, h.1))

pub sessions_none : AreSessionsOf (Contains []) []
sessions_none = record {
  exact = λ w. ((λ h. absurd (contains_none w h)), (λ s. absurd (contains_none s.begins.0 s.begins.1)));
  cover = λ span h. absurd (contains_none span h);
}

-- one more window of a list is merged
pub merged_more : (front spans : List Interval) (i : ℕ) (w : Interval) (old new : List Interval) → i < length spans → w ≡ get_or spans i w → IsNonEmpty w
    → ((xs : List Interval) → All IsNonEmpty xs → AreSessionsOf (Contains xs) old → AreSessionsOf (Contains (xs ++ w ∷ [])) new)
    → All IsNonEmpty (front ++ take i spans) → AreSessionsOf (Contains (front ++ take i spans)) old
    → All IsNonEmpty (front ++ take (i + 1) spans) × AreSessionsOf (Contains (front ++ take (i + 1) spans)) new
merged_more front spans i w old new within is some step all are =
    let next : (front ++ take i spans) ++ w ∷ [] ≡ front ++ take (i + 1) spans =
    append_assoc front (take i spans) (w ∷ []) ∙ ap (λ v. front ++ (take i spans ++ v ∷ [])) is ∙ sym (ap (λ l. front ++ l) (take_more spans i w within)) in (
      subst (λ (l : List Interval). All IsNonEmpty l) next (All-append IsNonEmpty (front ++ take i spans) (w ∷ []) all (All-cons IsNonEmpty w [] some (All-nil IsNonEmpty))),
      subst (λ (l : List Interval). AreSessionsOf (Contains l) new) next (step (front ++ take i spans) all are),
    )

-- ---- the session in which a window lies

apart_none : (x a b : Interval) → a.end ≤ℤ b.start → LiesIn x b → x.start <ℤ a.end → ⊥
apart_none x a b up lies late = omega (arith, ints, up, lies.0, late)

pub held_at : (listed : List Interval) (x : Interval) (at : ℕ) → AreApart listed → IsNonEmpty x
    → AllWithin (λ w. w.end ≤ℤ x.start) listed 0 at → AllWithin (λ w. x.start <ℤ w.end) listed at (length listed)
    → Any (LiesIn x) listed → (at < length listed) × ((d : Interval) → LiesIn x (get_or listed at d))
held_at listed x at apart some ended later h = by (cases_lt h.0 at) (cases_lt at h.0)
  where
    within : h.0 < length listed
    within = h.2

    nonempty : x.start <ℤ x.end
    nonempty = some

    lies : (d : Interval) → LiesIn x (get_or listed h.0 d)
    lies d = subst (LiesIn x) (sym (get_or_default listed h.0 d h.1 within ∙ h.3)) h.4

    by : (h.0 < at) ⊎ (at ≤ h.0) → (at < h.0) ⊎ (h.0 ≤ at) → (at < length listed) × ((d : Interval) → LiesIn x (get_or listed at d))
    by (inl before) _ =
        let low : (get_or listed h.0 x).end ≤ℤ x.start = ended h.0 x (omega arith) before in
        let in_ = lies x in
        absurd (early (get_or listed h.0 x) low in_)
      where
        early : (w : Interval) → w.end ≤ℤ x.start → LiesIn x w → ⊥
        early w low in_ = omega (arith, ints, low, in_.1, nonempty)
    by (inr from_) (inl past) =
        absurd (apart_none x (get_or listed at x) (get_or listed h.0 x) (apart.ascending at h.0 x past within) (lies x) (later at x (omega arith) (omega (arith, within))))
    by (inr from_) (inr upto) =
        let here : at ≡ h.0 = omega arith in
        (omega (arith, within), λ d. subst (λ k. LiesIn x (get_or listed k d)) (sym here) (lies d))

pub held_there : (listed : List Interval) (x : Interval) (at : ℕ) (w : Interval) → AreApart listed → IsNonEmpty x
    → AllWithin (λ w. w.end ≤ℤ x.start) listed 0 at → AllWithin (λ w. x.start <ℤ w.end) listed at (length listed)
    → w ≡ get_or listed at w → Any (LiesIn x) listed → LiesIn x w
held_there listed x at w apart some ended later is h = subst (LiesIn x) (sym is) ((held_at listed x at apart some ended later h).1 w)

-- one more window has its session listed
pub holder_more : (listed own windows after : List Interval) (i : ℕ) (x : Interval) (o : Option Interval) → i < length own → x ≡ get_or own i x
    → after ≡ windows ++ option_to_list o
    → MatchOption o ⊤ (Contains listed) → (Any (LiesIn x) listed → MatchOption o ⊥ (LiesIn x))
    → All (Contains listed) windows → All (λ span. Any (LiesIn span) listed → Any (LiesIn span) windows) (take i own) → length windows ≤ i
    → All (Contains listed) after × All (λ span. Any (LiesIn span) listed → Any (LiesIn span) after) (take (i + 1) own) × (length after ≤ i + 1)
holder_more listed own windows after i x None within is pushed are covers all before few =
    let same : after ≡ windows = pushed ∙ append-nil windows in (
      subst (All (Contains listed)) (sym same) all,
      subst (λ (l : List Interval). All (λ span. Any (LiesIn span) listed → Any (LiesIn span) after) l) (sym (take_more own i x within))
          (All-push (λ span. Any (LiesIn span) listed → Any (LiesIn span) after) (take i own) (get_or own i x)
          (All-weaker (λ span. Any (LiesIn span) listed → Any (LiesIn span) windows) (λ span. Any (LiesIn span) listed → Any (LiesIn span) after)
          (λ span f h. subst (Any (LiesIn span)) (sym same) (f h)) (take i own) before)
          (λ h. absurd (covers (subst (λ v. Any (LiesIn v) listed) (sym is) h)))),
      omega (arith, few, ap length same),
    )
holder_more listed own windows after i x (Some w) within is pushed are covers all before few = (
  subst (All (Contains listed)) (sym pushed) (All-push (Contains listed) windows w all are),
  subst (λ (l : List Interval). All (λ span. Any (LiesIn span) listed → Any (LiesIn span) after) l) (sym (take_more own i x within))
      (All-push (λ span. Any (LiesIn span) listed → Any (LiesIn span) after) (take i own) (get_or own i x)
      (All-weaker (λ span. Any (LiesIn span) listed → Any (LiesIn span) windows) (λ span. Any (LiesIn span) listed → Any (LiesIn span) after)
      (λ span f h. subst (Any (LiesIn span)) (sym pushed) (any_longer (LiesIn span) windows w (f h))) (take i own) before)
      (λ h. subst (λ v. Any (LiesIn v) after) is (subst (Any (LiesIn x)) (sym pushed) (Any-push (LiesIn x) windows w (covers (subst (λ v. Any (LiesIn v) listed) (sym is) h)))))),
  omega (arith, few, ap length pushed, length-append windows (w ∷ [])),
)

-- sessions are no matter of the order of the windows
session_alike : (S T : Interval → Type 0) → ((w : Interval) → S w → T w) → ((w : Interval) → T w → S w) → (w : Interval) → IsSessionOf S w → IsSessionOf T w
session_alike S T to from w h = record {
  ordered = h.ordered;
  begins = (h.begins.0, to h.begins.0 h.begins.1, h.begins.2);
  ends = (h.ends.0, to h.ends.0 h.ends.1, h.ends.2);
  joined = λ x inside. let one = h.joined x inside in (one.0, to one.0 one.1, one.2);
  apart = λ s there. h.apart s (from s there);
}

pub sessions_alike : (xs ys listed : List Interval) → IsPermutation ys xs → AreSessionsOf (Contains xs) listed → AreSessionsOf (Contains ys) listed
sessions_alike xs ys listed moved h = record {
  exact = λ w. ((λ c. session_alike (Contains xs) (Contains ys) to from w ((h.exact w).0 c)), (λ s. (h.exact w).1 (session_alike (Contains ys) (Contains xs) from to w s)));
  cover = λ span there. h.cover span (from span there);
}
  where
    to : (w : Interval) → Contains xs w → Contains ys w
    to w c = Contains-permutation xs ys w (IsPermutation-sym ys xs moved) c

    from : (w : Interval) → Contains ys w → Contains xs w
    from w c = Contains-permutation ys xs w moved c

pub ok_both : {X Y : Type 0} (r : Result X Y) (P Q R : X → Type 0) → ((x : X) → P x → Q x → R x) → IfOk r P → IfOk r Q → IfOk r R
ok_both (Ok x) P Q R f p q = f x p q
ok_both (Err e) P Q R f p q = tt

pub over_from : (own open_ listed windows : List Interval) → AreSessionsOf (Contains (open_ ++ own)) listed → All (Contains listed) windows
    → All (λ span. Any (LiesIn span) listed → Any (LiesIn span) windows) own → AreSessionsOver own open_ windows
over_from own open_ listed windows are all covers = record {
  each = λ k d l. (are.exact (get_or windows k d)).0 (all k d l);
  covers = λ k d l. covers k d l (are.cover (get_or own k d) (Contains-append_right open_ own (get_or own k d) (Contains-get_or own k d l)));
}
