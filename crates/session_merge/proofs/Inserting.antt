-- Sessions of a set of windows, once one more window is merged into them.
use Rattle.std.proofs.Common.{◌≡◌, ◌⊎◌, inl, inr, ◌≤ℤ◌, List, [], ◌∷◌, ◌++◌, sym, subst, ◌∙◌, arith}
use Rattle.std.specs.List.{All, Contains}
use Rattle.std.proofs.lemmas.Int.{ints}
use Rattle.std.proofs.lemmas.List.Elements.{All-contains, Contains-append_left, Contains-append_right, Contains-append_cases, Contains-push, Contains-push_cases}
use Rattle.beam_values.specs.Intervals.{Interval}
use Rattle.beam_values.specs.Sessions.{IsApart, LiesIn, IsNonEmpty, IsSessionOf, IsSession}
use Rattle.beam_values.proofs.Sessions.{session_moved, session_of_contained, one_that_holds}
use Rattle.session_merge.specs.Merging.{GivesWay, AreSessionsOf}
use Rattle.session_merge.proofs.Lists.{contains_first, contains_later, contains_cases}

-- a window with the start of a session lies in it, unless it is apart from it
pub begins_in : (v w : Interval) → IsNonEmpty v → IsNonEmpty w → v.start ≡ w.start → LiesIn v w ⊎ IsApart v w → LiesIn v w
begins_in v w some other same (inl lies) = lies
begins_in v w some other same (inr apart) = absurd (touch some other same apart)
  where
    touch : IsNonEmpty v → IsNonEmpty w → v.start ≡ w.start → IsApart v w → ⊥
    touch a b e h = omega (arith, ints)

-- what lies in a window lies in what that one lies in, and is apart from what that one is apart from
pub deeper : (v u w : Interval) → LiesIn v u → LiesIn u w → LiesIn v w
deeper v u w h k = (omega (arith, ints), omega (arith, ints))

pub apart_too : (v u w : Interval) → LiesIn v u → IsApart u w → IsApart v w
apart_too v u w h (inl k) = inl (omega (arith, ints))
apart_too v u w h (inr k) = inr (omega (arith, ints))

-- what lies in a window that is in a session or apart from it, is too
pub settled_too : (v u w : Interval) → LiesIn v u → LiesIn u w ⊎ IsApart u w → LiesIn v w ⊎ IsApart v w
settled_too v u w lies (inl inner) = inl (deeper v u w lies inner)
settled_too v u w lies (inr apart) = inr (apart_too v u w lies apart)

-- sessions of a set in one of which each of its windows lies are all of them
pub all_sessions : (S : Interval → Type 0) (listed : List Interval) → ((v : Interval) → S v → IsNonEmpty v)
    → ((w : Interval) → Contains listed w → IsSessionOf S w) → ((v : Interval) → S v → (u : Interval) × Contains listed u × LiesIn v u) → AreSessionsOf S listed
all_sessions S listed some each cover = record {
  exact = λ w. (each w, λ session. found w session);
  cover = λ v is. let at = cover v is in (at.1.0, at.0, at.1.1, at.1.2, at.2);
}
  where
    found : (w : Interval) → IsSessionOf S w → Contains listed w
    found w session =
        let v = session.begins.0 in
        let is = session.begins.1 in
        let at = cover v is in
        let lies = begins_in v w (some v is) session.ordered session.begins.2 (session.apart v is) in
        subst (Contains listed) (one_that_holds S v at.0 w (some v is) at.2 lies (each at.0 at.1) session) at.1

-- which listed window one of the set lies in
pub covered : (S : Interval → Type 0) (listed : List Interval) → AreSessionsOf S listed → (v : Interval) → S v → (u : Interval) × Contains listed u × LiesIn v u
covered S listed are v is = let at = are.cover v is in (at.1, (at.0, at.2, at.3), at.4)

module _ (S T : Interval → Type 0) (old new absorbed : List Interval) (x h : Interval)
    (some : (v : Interval) → T v → IsNonEmpty v) (to : (v : Interval) → S v → T v) (own : T x) (only : (v : Interval) → T v → S v ⊎ (v ≡ x))
    (merged : IsSession (old ++ x ∷ []) h) (holds : LiesIn x h) (way : GivesWay old absorbed h new) (are : AreSessionsOf S old) where
  of_both : IsSessionOf (Contains (old ++ x ∷ [])) h
  of_both = session_of_contained (old ++ x ∷ []) h merged

  -- what a listed window or the one that came has, a window of the larger set has
  through : {P : Interval → Type 0} → ((u : Interval) → Contains old u → P u → (v : Interval) × S v × P v)
      → (u : Interval) × Contains (old ++ x ∷ []) u × P u → (v : Interval) × T v × P v
  through {P} inner (u, among, is) = by (Contains-push_cases old x u among)
    where
      by : Contains old u ⊎ (x ≡ u) → (v : Interval) × T v × P v
      by (inl listed) = let at = inner u listed is in (at.0, to at.0 at.1, at.2)
      by (inr same) = (x, own, subst P (sym same) is)

  -- a window that stays is a session as before
  stays : (w : Interval) → Contains old w → IsApart x w → IsSessionOf T w
  stays w listed apart =
      let session = (are.exact w).0 listed in
      record {
        ordered = session.ordered;
        begins = (session.begins.0, to session.begins.0 session.begins.1, session.begins.2);
        ends = (session.ends.0, to session.ends.0 session.ends.1, session.ends.2);
        joined = λ p inside. let at = session.joined p inside in (at.0, to at.0 at.1, at.2);
        apart = λ v is. elim (only v is) [
          | inl before ↦ session.apart v before
          | inr same ↦ inr (subst (λ (u : Interval). IsApart u w) (sym same) apart)
        ];
      }

  -- the window that came of the merging is a session
  merged_session : IsSessionOf T h
  merged_session = record {
    ordered = of_both.ordered;
    begins = through (λ u listed same. let at = ((are.exact u).0 listed).begins in (at.0, at.1, at.2 ∙ same)) of_both.begins;
    ends = through (λ u listed same. let at = ((are.exact u).0 listed).ends in (at.0, at.1, at.2 ∙ same)) of_both.ends;
    joined = λ p inside. through (λ u listed within. ((are.exact u).0 listed).joined p within) (of_both.joined p inside);
    apart = λ v is. elim (only v is) [
      | inl before ↦ let at = covered S old are v before in
          settled_too v at.0 h at.2 (of_both.apart at.0 (Contains-append_left old (x ∷ []) at.0 at.1))
      | inr same ↦ inl (subst (λ (u : Interval). LiesIn u h) (sym same) holds)
    ];
  }

  in_old : (w : Interval) → Contains (way.front ++ (absorbed ++ way.back)) w → Contains old w
  in_old w at = subst (λ (l : List Interval). Contains l w) (sym way.was) at

  in_new : (w : Interval) → Contains (way.front ++ h ∷ way.back) w → Contains new w
  in_new w at = subst (λ (l : List Interval). Contains l w) (sym way.is) at

  before_it : (w : Interval) → w.end ≤ℤ h.start → IsApart x w
  before_it w low = inr (omega (arith, ints, holds.0))

  behind_it : (w : Interval) → h.end ≤ℤ w.start → IsApart x w
  behind_it w high = inl (omega (arith, ints, holds.1))

  each_new : (w : Interval) → Contains new w → IsSessionOf T w
  each_new w at = by (Contains-append_cases way.front (h ∷ way.back) w (subst (λ (l : List Interval). Contains l w) way.is at))
    where
      in_back : (w ≡ h) ⊎ Contains way.back w → IsSessionOf T w
      in_back (inl same) = subst (IsSessionOf T) (sym same) merged_session
      in_back (inr back) =
          stays w (in_old w (Contains-append_right way.front (absorbed ++ way.back) w (Contains-append_right absorbed way.back w back)))
          (behind_it w (All-contains (λ u. h.end ≤ℤ u.start) way.back w way.behind back))

      by : Contains way.front w ⊎ Contains (h ∷ way.back) w → IsSessionOf T w
      by (inl front) =
          stays w (in_old w (Contains-append_left way.front (absorbed ++ way.back) w front))
          (before_it w (All-contains (λ u. u.end ≤ℤ h.start) way.front w way.before front))
      by (inr later) = in_back (contains_cases h way.back w later)

  listed_too : Contains new h
  listed_too = in_new h (Contains-append_right way.front (h ∷ way.back) h (contains_first h way.back))

  cover_new : (v : Interval) → T v → (u : Interval) × Contains new u × LiesIn v u
  cover_new v is = by (only v is)
    where
      at : (u : Interval) → Contains old u → LiesIn v u → (w : Interval) × Contains new w × LiesIn v w
      at u listed lies = place (Contains-append_cases way.front (absorbed ++ way.back) u (subst (λ (l : List Interval). Contains l u) way.was listed))
        where
          later : Contains absorbed u ⊎ Contains way.back u → (w : Interval) × Contains new w × LiesIn v w
          later (inl inner) = (h, listed_too, deeper v u h lies (All-contains (λ w. LiesIn w h) absorbed u way.inside inner))
          later (inr back) = (u, in_new u (Contains-append_right way.front (h ∷ way.back) u (contains_later h way.back u back)), lies)

          place : Contains way.front u ⊎ Contains (absorbed ++ way.back) u → (w : Interval) × Contains new w × LiesIn v w
          place (inl front) = (u, in_new u (Contains-append_left way.front (h ∷ way.back) u front), lies)
          place (inr behind) = later (Contains-append_cases absorbed way.back u behind)

      by : S v ⊎ (v ≡ x) → (u : Interval) × Contains new u × LiesIn v u
      by (inl before) = let c = covered S old are v before in at c.0 c.1 c.2
      by (inr same) = (h, listed_too, subst (λ (u : Interval). LiesIn u h) (sym same) holds)

  -- what is listed are the sessions of the set and the window that came
  pub sessions_after : AreSessionsOf T new
  sessions_after = all_sessions T new some each_new cover_new

-- the same, where the set is a list
pub sessions_pushed : (spans old new absorbed : List Interval) (x h : Interval) → IsNonEmpty x → All IsNonEmpty spans
    → IsSession (old ++ x ∷ []) h → LiesIn x h → GivesWay old absorbed h new
    → AreSessionsOf (Contains spans) old → AreSessionsOf (Contains (spans ++ x ∷ [])) new
sessions_pushed spans old new absorbed x h one all merged holds way are =
    sessions_after (Contains spans) (Contains (spans ++ x ∷ [])) old new absorbed x h some (Contains-append_left spans (x ∷ [])) (Contains-push spans x) only
    merged holds way are
  where
    only : (v : Interval) → Contains (spans ++ x ∷ []) v → Contains spans v ⊎ (v ≡ x)
    only v at = elim (Contains-push_cases spans x v at) [ inl before ↦ inl before | inr same ↦ inr (sym same) ]

    some : (v : Interval) → Contains (spans ++ x ∷ []) v → IsNonEmpty v
    some v at = elim (only v at) [
      | inl before ↦ All-contains IsNonEmpty spans v all before
      | inr same ↦ subst IsNonEmpty (sym same) one
    ]

-- no window is listed where none was inserted
pub sessions_none : AreSessionsOf (Contains []) []
sessions_none = all_sessions (Contains []) [] (λ v at. absurd (none v at)) (λ w at. absurd (none w at)) (λ v at. absurd (none v at))
  where
    none : (v : Interval) → Contains [] v → ⊥
    none v at = omega (arith, at.1)

-- sets that have the same windows have the same sessions
pub sessions_moved : (S T : Interval → Type 0) (listed : List Interval) → ((v : Interval) → S v → T v) → ((v : Interval) → T v → S v)
    → AreSessionsOf S listed → AreSessionsOf T listed
sessions_moved S T listed to from are = record {
  exact = λ w. (
    λ at. session_moved S T w to from ((are.exact w).0 at),
    λ session. (are.exact w).1 (session_moved T S w from to session),
  );
  cover = λ v is. are.cover v (from v is);
}
