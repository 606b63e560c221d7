-- Sessions of a set of windows, once one of them is taken out together with the windows that lie in it.
use Rattle.std.proofs.Common.{◌≡◌, ◌⊎◌, inl, inr, Bool, true, ℤ, ◌≤ℤ◌, ℕ, ◌<◌, suc, List, [], ◌∷◌, ◌++◌, length, take, drop, Some, sym, ap, subst, ◌∙◌, arith}
use Rattle.std.specs.Prelude.{not, int_le, ◌&&◌}
use Rattle.std.specs.List.{All, Contains, slice_get, remove}
use Rattle.std.proofs.lemmas.Int.{ints}
use Rattle.std.proofs.lemmas.Bool.{cases_Bool, and_parts, false≢true}
use Rattle.std.proofs.Math.Seq.{drop-cons}
use Rattle.std.proofs.lemmas.List.{take-append-drop}
use Rattle.std.proofs.lemmas.Option.{get_or_from_slice_get}
use Rattle.std.proofs.lemmas.List.Elements.{All-contains, Contains-append_left, Contains-append_right, Contains-append_cases}
use Rattle.beam_values.specs.Intervals.{Interval}
use Rattle.beam_values.specs.Sessions.{IsApart, LiesIn, IsInside, IsNonEmpty, IsSessionOf}
use Rattle.beam_values.specs.Spans.{lies_in}
use Rattle.session_merge.specs.Merging.{AreApart, IsTakenOut, AreSessionsOf, those_outside}
use Rattle.session_merge.proofs.Lists.{pairs_across, pairs_second, contains_first, contains_later, contains_cases, contains_filter, contains_filtered}
use Rattle.session_merge.proofs.Inserting.{all_sessions, covered, begins_in}
use Rattle.session_merge.proofs.Places.{IsBefore, apart_first, apart_second, apart_append}

not_in_both : (v w x : Interval) → IsNonEmpty v → LiesIn v w → LiesIn v x → IsApart w x → ⊥
not_in_both v w x some first second apart = omega (arith, ints)

-- a window with the end of a session lies in it, unless it is apart from it
ends_in : (v w : Interval) → IsNonEmpty v → IsNonEmpty w → v.end ≡ w.end → LiesIn v w ⊎ IsApart v w → LiesIn v w
ends_in v w some other same (inl lies) = lies
ends_in v w some other same (inr apart) = absurd (clash some other same apart)
  where
    clash : IsNonEmpty v → IsNonEmpty w → v.end ≡ w.end → IsApart v w → ⊥
    clash a b e h = omega (arith, ints)

-- so does a window that has a point in common with it
point_in : (v w : Interval) (p : ℤ) → IsInside v p → IsInside w p → LiesIn v w ⊎ IsApart v w → LiesIn v w
point_in v w p first second (inl lies) = lies
point_in v w p first second (inr apart) = absurd (clash first second apart)
  where
    clash : IsInside v p → IsInside w p → IsApart v w → ⊥
    clash a b h = omega (arith, ints)

module _ (S T : Interval → Type 0) (old new : List Interval) (x : Interval)
    (some : (v : Interval) → S v → IsNonEmpty v) (from : (v : Interval) → T v → S v) (outside : (v : Interval) → T v → LiesIn v x → ⊥)
    (others : (v : Interval) → S v → LiesIn v x ⊎ T v)
    (up : AreApart old) (way : IsTakenOut old x new) (are : AreSessionsOf S old) where
  -- a window that stays listed is apart from the one that is taken out
  stays : (w : Interval) → Contains new w → Contains old w × IsApart w x
  stays w at = by (Contains-append_cases way.front way.back w (subst (λ (l : List Interval). Contains l w) way.is at))
    where
      in_old : Contains (way.front ++ x ∷ way.back) w → Contains old w
      in_old h = subst (λ (l : List Interval). Contains l w) (sym way.was) h

      parts : AreApart (way.front ++ x ∷ way.back)
      parts = subst AreApart way.was up

      by : Contains way.front w ⊎ Contains way.back w → Contains old w × IsApart w x
      by (inl front) = (
        in_old (Contains-append_left way.front (x ∷ way.back) w front),
        inl (pairs_across IsBefore way.front (x ∷ way.back) parts.ascending w x front (contains_first x way.back)),
      )
      by (inr back) = (
        in_old (Contains-append_right way.front (x ∷ way.back) w (contains_later x way.back w back)),
        inr (pairs_across IsBefore (x ∷ []) way.back (pairs_second IsBefore way.front (x ∷ way.back) parts.ascending) x w (contains_first x []) back),
      )

  -- what lies in a window that stays is still in the set
  kept : (v w : Interval) → S v → LiesIn v w → IsApart w x → T v
  kept v w is lies apart = elim (others v is) [ inl inner ↦ absurd (not_in_both v w x (some v is) lies inner apart) | inr among ↦ among ]

  each_new : (w : Interval) → Contains new w → IsSessionOf T w
  each_new w at =
      let stay = stays w at in
      let session = (are.exact w).0 stay.0 in
      record {
        ordered = session.ordered;
        begins = let v = session.begins in
            (v.0, kept v.0 w v.1 (begins_in v.0 w (some v.0 v.1) session.ordered v.2 (session.apart v.0 v.1)) stay.1, v.2);
        ends = let v = session.ends in
            (v.0, kept v.0 w v.1 (ends_in v.0 w (some v.0 v.1) session.ordered v.2 (session.apart v.0 v.1)) stay.1, v.2);
        joined = λ p inside. let v = session.joined p inside in
            (v.0, kept v.0 w v.1 (point_in v.0 w p v.2 inside (session.apart v.0 v.1)) stay.1, v.2);
        apart = λ v is. session.apart v (from v is);
      }

  cover_new : (v : Interval) → T v → (u : Interval) × Contains new u × LiesIn v u
  cover_new v is = let c = covered S old are v (from v is) in by c.0 c.2 (Contains-append_cases way.front (x ∷ way.back) c.0 (subst (λ (l : List Interval). Contains l c.0) way.was c.1))
    where
      in_new : (u : Interval) → Contains (way.front ++ way.back) u → Contains new u
      in_new u h = subst (λ (l : List Interval). Contains l u) (sym way.is) h

      later : (u : Interval) → LiesIn v u → (u ≡ x) ⊎ Contains way.back u → (u : Interval) × Contains new u × LiesIn v u
      later u lies (inl same) = absurd (outside v is (subst (LiesIn v) same lies))
      later u lies (inr back) = (u, in_new u (Contains-append_right way.front way.back u back), lies)

      by : (u : Interval) → LiesIn v u → Contains way.front u ⊎ Contains (x ∷ way.back) u → (u : Interval) × Contains new u × LiesIn v u
      by u lies (inl front) = (u, in_new u (Contains-append_left way.front way.back u front), lies)
      by u lies (inr behind) = later u lies (contains_cases x way.back u behind)

  -- what is listed are the sessions of the windows that don't lie in the one that is taken out
  pub sessions_left : AreSessionsOf T new
  sessions_left = all_sessions T new (λ v is. some v (from v is)) each_new cover_new

lies_in-yes : (v x : Interval) → lies_in v x ≡ true → LiesIn v x
lies_in-yes v x is =
    let both = and_parts (int_le x.start v.start) (int_le v.end x.end) is in
    (at_most x.start v.start both.0, at_most v.end x.end both.1)
  where
    at_most : (a b : ℤ) → int_le a b ≡ true → a ≤ℤ b
    at_most a b test = omega (arith, ints)

lies_in-no : (v x : Interval) → LiesIn v x → lies_in v x ≡ true
lies_in-no v x h = tested x.start v.start v.end x.end h.0 h.1
  where
    tested : (a b c d : ℤ) → a ≤ℤ b → c ≤ℤ d → (int_le a b && int_le c d) ≡ true
    tested a b c d p q = grind (arith, ints)

-- the same, where the set is a list
pub sessions_filtered : (spans old new : List Interval) (x : Interval) → All IsNonEmpty spans → AreApart old → IsTakenOut old x new
    → AreSessionsOf (Contains spans) old → AreSessionsOf (Contains (those_outside x spans)) new
sessions_filtered spans old new x all up way are =
    sessions_left (Contains spans) (Contains (those_outside x spans)) old new x (λ v at. All-contains IsNonEmpty spans v all at)
    (λ v at. (contains_filtered outside spans v at).0) (λ v at lies. clash v (contains_filtered outside spans v at).1 (lies_in-no v x lies)) others
    up way are
  where
    outside : Interval → Bool
    outside v = not (lies_in v x)

    clash : (v : Interval) → outside v ≡ true → lies_in v x ≡ true → ⊥
    clash v e f = false≢true (sym (ap not f) ∙ e)

    others : (v : Interval) → Contains spans v → LiesIn v x ⊎ Contains (those_outside x spans) v
    others v at = elim (cases_Bool (lies_in v x)) [
      | inl inner ↦ inl (lies_in-yes v x inner)
      | inr out ↦ inr (contains_filter outside spans v at (ap not out))
    ]

-- a window is taken out of its place, at which it was seen
taken_at : (old new : List Interval) (x : Interval) (at : ℕ) → at < length old → slice_get old at ≡ Some x → new ≡ remove old at → IsTakenOut old x new
taken_at old new x at within here is = record {
  front = take at old;
  back = drop (suc at) old;
  was =
      sym (take-append-drop at old)
      ∙ ap (λ (l : List Interval). take at old ++ l) (drop-cons old at x within)
      ∙ ap (λ (w : Interval). take at old ++ w ∷ drop (suc at) old) (get_or_from_slice_get old at x x here);
  is = is;
}

pub taken_out : (old seen new : List Interval) (x : Interval) (at : ℕ) → seen ≡ old → at < length seen → slice_get seen at ≡ Some x → new ≡ remove old at
    → IsTakenOut old x new
taken_out old seen new x at same within here is =
    taken_at old new x at (omega (arith, ap length same)) (ap (λ (l : List Interval). slice_get l at) (sym same) ∙ here) is

-- what is left is in order
pub apart_left : (old new : List Interval) (x : Interval) → AreApart old → IsTakenOut old x new → AreApart new
apart_left old new x up way =
    let parts = subst AreApart way.was up in
    subst AreApart (sym way.is)
    (apart_append way.front way.back (apart_first way.front (x ∷ way.back) parts) (apart_second (x ∷ []) way.back (apart_second way.front (x ∷ way.back) parts))
    (λ a b first second. pairs_across IsBefore way.front (x ∷ way.back) parts.ascending a b first (contains_later x way.back b second)))
