-- The run of windows that a window overlaps, among windows in order, and what comes of merging them.
use Rattle.std.proofs.Common.{◌≡◌, ◌⊎◌, inl, inr, ℕ, ◌-◌, ◌<◌, ◌≤◌, true, false, ℤ, ◌<ℤ◌, ◌≤ℤ◌, List, [], ◌∷◌, ◌++◌, length, get_or, take, drop, sym, ap, subst, ◌∙◌, arith}
use Rattle.std.specs.List.{All, AllWithin, Any, Contains, between}
use Rattle.std.specs.List.Sorted.{IsPartitionedBy, IsPartitionPoint}
use Rattle.std.specs.Prelude.{int_le, int_lt, ◌&&◌}
use Rattle.std.specs.Ordering.{int_eq}
use Rattle.std.proofs.lemmas.Bool.{cases_lt, cases_order}
use Rattle.std.proofs.lemmas.Int.{ints, clamps, by_lt_z}
use Rattle.std.proofs.lemmas.List.{get_or_default}
use Rattle.std.proofs.lemmas.List.Edits.{split_between}
use Rattle.std.proofs.lemmas.List.Elements.{All-append, All-cons, All-contains, Contains-append_left, Contains-append_right, Contains-append_cases, Contains-push, Contains-push_cases}
use Rattle.std.proofs.lemmas.List.Kept.{AllPairs-cons}
use Rattle.beam_values.specs.Intervals.{Interval}
use Rattle.beam_values.specs.Sessions.{Overlaps, IsApart, LiesIn, hull, IsInside, IsNonEmpty, IsSession}
use Rattle.beam_values.proofs.Sessions.{session_from_contained}
use Rattle.session_merge.specs.Merging.{AreApart, GivesWay}
use Rattle.session_merge.specs.Runs.{IsRun, IsHull}
use Rattle.session_merge.proofs.Lists.{pairs_across, pairs_append, pairs_first, pairs_second, all_first, all_second, within_take, within_drop, within_between, contains_cases, all_of}

abbrev pub IsBefore : Interval → Interval → Type 0
IsBefore a b = a.end ≤ℤ b.start

-- parts of windows in order are in order
pub apart_first : (xs ys : List Interval) → AreApart (xs ++ ys) → AreApart xs
apart_first xs ys up = record { nonempty = all_first IsNonEmpty xs ys up.nonempty; ascending = pairs_first IsBefore xs ys up.ascending }

pub apart_second : (xs ys : List Interval) → AreApart (xs ++ ys) → AreApart ys
apart_second xs ys up = record { nonempty = all_second IsNonEmpty xs ys up.nonempty; ascending = pairs_second IsBefore xs ys up.ascending }

pub apart_append : (xs ys : List Interval) → AreApart xs → AreApart ys → ((a b : Interval) → Contains xs a → Contains ys b → IsBefore a b) → AreApart (xs ++ ys)
apart_append xs ys front back across = record {
  nonempty = All-append IsNonEmpty xs ys front.nonempty back.nonempty;
  ascending = pairs_append IsBefore xs ys front.ascending back.ascending across;
}

pub apart_cons : (w : Interval) (ys : List Interval) → IsNonEmpty w → All (IsBefore w) ys → AreApart ys → AreApart (w ∷ ys)
apart_cons w ys some later up = record {
  nonempty = All-cons IsNonEmpty w ys some up.nonempty;
  ascending = AllPairs-cons IsBefore w ys later up.ascending;
}

-- the places at which the run begins and ends, by the two searches
pub run_found : (old : List Interval) (x : Interval) (start end : ℕ) → start ≤ end → end ≤ length old
    → AllWithin (λ w. w.end ≤ℤ x.start) old 0 start → AllWithin (λ w. x.start <ℤ w.end) old start (length old)
    → AllWithin (λ w. w.start <ℤ x.end) old 0 end → AllWithin (λ w. x.end ≤ℤ w.start) old end (length old)
    → IsRun old x (take start old) (between start end old) (drop end old)
run_found old x start end ordered within ended lasting begun later = record {
  was = split_between old start end ordered;
  ended = within_take (λ w. w.end ≤ℤ x.start) old start ended;
  meets = within_between (Overlaps x) old start end within
      (λ k d low high. (lasting k d low (omega arith), begun k d (omega arith) high));
  later = within_drop (λ w. x.end ≤ℤ w.start) old end later;
}

-- the first search doesn't go past the second
pub places_ordered : (old : List Interval) (x : Interval) (start end : ℕ) → IsNonEmpty x → AreApart old → start ≤ length old
    → AllWithin (λ w. w.end ≤ℤ x.start) old 0 start → AllWithin (λ w. x.end ≤ℤ w.start) old end (length old) → start ≤ end
places_ordered old x start end some up within ended later = by (cases_lt end start)
  where
    clash : (w : Interval) → IsNonEmpty w → w.end ≤ℤ x.start → x.end ≤ℤ w.start → ⊥
    clash w own low high = omega (arith, ints)

    by : (end < start) ⊎ (start ≤ end) → start ≤ end
    by (inl past) = absurd (clash (get_or old end x) (up.nonempty end x (omega arith)) (ended end x (omega arith) past) (later end x (omega arith) (omega arith)))
    by (inr ordered) = ordered

module _ (old : List Interval) (x h : Interval) (front run back : List Interval) (some : IsNonEmpty x) (up : AreApart old) (found : IsRun old x front run back)
    (hull : IsHull x run h) where
  parts : AreApart (front ++ (run ++ back))
  parts = subst AreApart found.was up

  -- what stands before the run ends by the start of the hull
  front_before : (w : Interval) → Contains front w → w.end ≤ℤ h.start
  front_before w at = by hull.begins (All-contains (λ u. u.end ≤ℤ x.start) front w found.ended at)
    where
      by : (h.start ≡ x.start) ⊎ Any (λ u. u.start ≡ h.start) run → w.end ≤ℤ x.start → w.end ≤ℤ h.start
      by (inl same) low = omega (arith, ints)
      by (inr u) low =
          let across = pairs_across IsBefore front (run ++ back) parts.ascending w u.1 at (Contains-append_left run back u.1 (u.0, u.2, u.3)) in
          omega (arith, ints, u.4)

  back_behind : (w : Interval) → Contains back w → h.end ≤ℤ w.start
  back_behind w at = by hull.ends (All-contains (λ u. x.end ≤ℤ u.start) back w found.later at)
    where
      by : (h.end ≡ x.end) ⊎ Any (λ u. u.end ≡ h.end) run → x.end ≤ℤ w.start → h.end ≤ℤ w.start
      by (inl same) high = omega (arith, ints)
      by (inr u) high =
          let across = pairs_across IsBefore run back (pairs_second IsBefore front (run ++ back) parts.ascending) u.1 w (u.0, u.2, u.3) at in
          omega (arith, ints, u.4)

  some_hull : IsNonEmpty h
  some_hull = omega (arith, ints, hull.holds.0, hull.holds.1)

  pub gives_way : (new : List Interval) → new ≡ front ++ h ∷ back → GivesWay old run h new
  gives_way new is = record {
    front = front;
    back = back;
    was = found.was;
    is = is;
    before = all_of (λ w. w.end ≤ℤ h.start) front front_before;
    inside = hull.inside;
    behind = all_of (λ w. h.end ≤ℤ w.start) back back_behind;
  }

  in_old : (w : Interval) → Contains (run ++ back) w → Contains old w
  in_old w at = subst (λ (l : List Interval). Contains l w) (sym found.was) (Contains-append_right front (run ++ back) w at)

  of_run : (P : Interval → Type 0) → Any P run → (w : Interval) × Contains (old ++ x ∷ []) w × P w
  of_run P u = (u.1, Contains-append_left old (x ∷ []) u.1 (in_old u.1 (Contains-append_left run back u.1 (u.0, u.2, u.3))), u.4)

  of_own : (P : Interval → Type 0) → P x → (w : Interval) × Contains (old ++ x ∷ []) w × P w
  of_own P is = (x, Contains-push old x, is)

  -- the hull is the session of the listed windows and the one that came
  pub hull_session : IsSession (old ++ x ∷ []) h
  hull_session = session_from_contained (old ++ x ∷ []) h (record {
    ordered = some_hull;
    begins = elim hull.begins [ inl same ↦ of_own (λ w. w.start ≡ h.start) (sym same) | inr u ↦ of_run (λ w. w.start ≡ h.start) u ];
    ends = elim hull.ends [ inl same ↦ of_own (λ w. w.end ≡ h.end) (sym same) | inr u ↦ of_run (λ w. w.end ≡ h.end) u ];
    joined = λ p inside. by_lt_z x.start p (λ above. by_lt_z p x.end (λ below. of_own (λ w. IsInside w p) (above, below)) (λ high. at_end p inside high hull.ends)) (λ low. at_start p inside low hull.begins);
    apart = λ w at. elim (Contains-push_cases old x w at) [
      | inl listed ↦ settled w (Contains-append_cases front (run ++ back) w (subst (λ (l : List Interval). Contains l w) found.was listed))
      | inr same ↦ inl (subst (λ (u : Interval). LiesIn u h) same hull.holds)
    ];
  })
    where
      before_run : (p : ℤ) (u : Interval) → p ≤ℤ x.start → h.start <ℤ p → u.start ≡ h.start → x.start <ℤ u.end → IsInside u p
      before_run p u low inside same meets = (omega (arith, ints), omega (arith, ints))

      behind_run : (p : ℤ) (u : Interval) → x.end ≤ℤ p → p <ℤ h.end → u.end ≡ h.end → u.start <ℤ x.end → IsInside u p
      behind_run p u high inside same meets = (omega (arith, ints), omega (arith, ints))

      not_both : (a b p : ℤ) → a ≡ b → a <ℤ p → p ≤ℤ b → ⊥
      not_both a b p same lt le = omega (arith, ints)

      not_after : (a b p : ℤ) → b ≡ a → p <ℤ b → a ≤ℤ p → ⊥
      not_after a b p same lt le = omega (arith, ints)

      at_start : (p : ℤ) → IsInside h p → p ≤ℤ x.start → (h.start ≡ x.start) ⊎ Any (λ u. u.start ≡ h.start) run
          → (w : Interval) × Contains (old ++ x ∷ []) w × IsInside w p
      at_start p inside low (inl same) = absurd (not_both h.start x.start p same inside.0 low)
      at_start p inside low (inr u) =
          let meets = All-contains (Overlaps x) run u.1 found.meets (u.0, u.2, u.3) in
          of_run (λ w. IsInside w p) (u.0, u.1, u.2, u.3, before_run p u.1 low inside.0 u.4 meets.0)

      at_end : (p : ℤ) → IsInside h p → x.end ≤ℤ p → (h.end ≡ x.end) ⊎ Any (λ u. u.end ≡ h.end) run
          → (w : Interval) × Contains (old ++ x ∷ []) w × IsInside w p
      at_end p inside high (inl same) = absurd (not_after x.end h.end p same inside.1 high)
      at_end p inside high (inr u) =
          let meets = All-contains (Overlaps x) run u.1 found.meets (u.0, u.2, u.3) in
          of_run (λ w. IsInside w p) (u.0, u.1, u.2, u.3, behind_run p u.1 high inside.1 u.4 meets.1)

      settled : (w : Interval) → Contains front w ⊎ Contains (run ++ back) w → LiesIn w h ⊎ IsApart w h
      settled w (inl at) = inr (inl (front_before w at))
      settled w (inr at) = elim (Contains-append_cases run back w at) [
        | inl inner ↦ inl (All-contains (λ u. LiesIn u h) run w hull.inside inner)
        | inr behind ↦ inr (inr (back_behind w behind))
      ]

  -- the hull stands in order in the place of the run
  pub still_apart : (new : List Interval) → new ≡ front ++ h ∷ back → AreApart new
  still_apart new is =
      subst AreApart (sym is)
      (apart_append front (h ∷ back) (apart_first front (run ++ back) parts)
      (apart_cons h back some_hull (all_of (IsBefore h) back back_behind) (apart_second run back (apart_second front (run ++ back) parts)))
      (λ a b first second. elim (contains_cases h back b second) [
        | inl same ↦ subst (IsBefore a) (sym same) (front_before a first)
        | inr behind ↦ pairs_across IsBefore front (run ++ back) parts.ascending a b first (Contains-append_right run back b behind)
      ]))

-- what the searches ask of windows in order, and what they find
search_ended : (old : List Interval) (time : ℤ) → AreApart old → IsPartitionedBy (λ w. int_le w.end time) old
search_ended old time up i j d le within holds = by (cases_lt i j)
  where
    earlier : (v w : Interval) → IsBefore v w → IsNonEmpty w → int_le w.end time ≡ true → int_le v.end time ≡ true
    earlier v w before some test = grind (arith, ints)

    by : (i < j) ⊎ (j ≤ i) → int_le (get_or old i d).end time ≡ true
    by (inl before) = earlier (get_or old i d) (get_or old j d) (up.ascending i j d before within) (up.nonempty j d within) holds
    by (inr after) = let same : i ≡ j = omega arith in ap (λ k. int_le (get_or old k d).end time) same ∙ holds

search_begun : (old : List Interval) (time : ℤ) → AreApart old → IsPartitionedBy (λ w. int_lt w.start time) old
search_begun old time up i j d le within holds = by (cases_lt i j)
  where
    earlier : (v w : Interval) → IsBefore v w → IsNonEmpty v → int_lt w.start time ≡ true → int_lt v.start time ≡ true
    earlier v w before some test = grind (arith, ints)

    by : (i < j) ⊎ (j ≤ i) → int_lt (get_or old i d).start time ≡ true
    by (inl before) = earlier (get_or old i d) (get_or old j d) (up.ascending i j d before within) (up.nonempty i d (omega arith)) holds
    by (inr after) = let same : i ≡ j = omega arith in ap (λ k. int_lt (get_or old k d).start time) same ∙ holds

pub ended_found : (old : List Interval) (x : Interval) (time : ℤ) (found : ℕ) → time ≡ x.start → AreApart old
    → (IsPartitionedBy (λ w. int_le w.end time) old → IsPartitionPoint (λ w. int_le w.end time ≡ true) (λ w. int_le w.end time ≡ false) old found)
    → AllWithin (λ w. w.end ≤ℤ x.start) old 0 found × AllWithin (λ w. x.start <ℤ w.end) old found (length old)
ended_found old x time found same up point =
    let parts = point (search_ended old time up) in
    (λ k d low high. reached (get_or old k d) (parts.0 k d low high), λ k d low high. beyond (get_or old k d) (parts.1 k d low high))
  where
    reached : (w : Interval) → int_le w.end time ≡ true → w.end ≤ℤ x.start
    reached w test = omega (arith, ints)

    beyond : (w : Interval) → int_le w.end time ≡ false → x.start <ℤ w.end
    beyond w test = omega (arith, ints)

pub begun_found : (old : List Interval) (x : Interval) (time : ℤ) (found : ℕ) → time ≡ x.end → AreApart old
    → (IsPartitionedBy (λ w. int_lt w.start time) old → IsPartitionPoint (λ w. int_lt w.start time ≡ true) (λ w. int_lt w.start time ≡ false) old found)
    → AllWithin (λ w. w.start <ℤ x.end) old 0 found × AllWithin (λ w. x.end ≤ℤ w.start) old found (length old)
begun_found old x time found same up point =
    let parts = point (search_begun old time up) in
    (λ k d low high. begun (get_or old k d) (parts.0 k d low high), λ k d low high. beyond (get_or old k d) (parts.1 k d low high))
  where
    begun : (w : Interval) → int_lt w.start time ≡ true → w.start <ℤ x.end
    begun w test = omega (arith, ints)

    beyond : (w : Interval) → int_lt w.start time ≡ false → x.end ≤ℤ w.start
    beyond w test = omega (arith, ints)

-- a listed window stands where the windows that end by its start end
pub place_found : (old : List Interval) (x : Interval) (at : ℕ) → AreApart old → IsNonEmpty x
    → AllWithin (λ w. w.end ≤ℤ x.start) old 0 at → AllWithin (λ w. x.start <ℤ w.end) old at (length old)
    → Contains old x → (at < length old) × (get_or old at x ≡ x)
place_found old x at up some ended later (k, within, same) = by (cases_order k at)
  where
    own : (w : Interval) → w ≡ x → w.end ≤ℤ x.start → ⊥
    own w e low = not_ended (subst (λ (v : Interval). v.end ≤ℤ x.start) e low)
      where
        not_ended : x.end ≤ℤ x.start → ⊥
        not_ended h = omega (arith, ints)

    first : (w : Interval) → w.end ≤ℤ x.start → x.start <ℤ w.end → ⊥
    first w low high = omega (arith, ints)

    before_own : (w : Interval) → w.end ≤ℤ (get_or old k x).start → w.end ≤ℤ x.start
    before_own w h = subst (λ (v : Interval). w.end ≤ℤ v.start) same h

    by : (k ≡ at) ⊎ ((k < at) ⊎ (at < k)) → (at < length old) × (get_or old at x ≡ x)
    by (inl e) = (omega arith, ap (λ n. get_or old n x) (sym e) ∙ same)
    by (inr (inl less)) = absurd (own (get_or old k x) same (ended k x (omega arith) less))
    by (inr (inr more)) = absurd (first (get_or old at x) (before_own (get_or old at x) (up.ascending at k x more within)) (later at x (omega arith) (omega arith)))

-- the hull of a window and the first and the last of a run holds the whole run
pub hull_found : (x : Interval) (run : List Interval) (first last : Interval) → AreApart run → 0 < length run
    → first ≡ get_or run 0 first → last ≡ get_or run (length run - 1) last → IsHull x run (hull (hull x first) last)
hull_found x run first last up some is_first is_last = record {
  holds = (omega (arith, ints, clamps), omega (arith, ints, clamps));
  inside = λ k d within. in_hull (get_or run k d) (from_first k d within (cases_lt 0 k)) (to_last k d within (cases_lt k (length run - 1)));
  begins = by_lt_z first.start x.start
      (λ before. inr (0, first, some, sym is_first, starts before))
      (λ after. inl (own_start after));
  ends = by_lt_z x.end last.end
      (λ after. inr (length run - 1, last, omega arith, sym is_last, stops after))
      (λ before. inl (own_end before));
}
  where
    at_first : (w : Interval) → first ≡ w → first.start ≤ℤ w.start
    at_first w same = let starts = ap (λ (v : Interval). v.start) same in omega (arith, ints)

    at_last : (w : Interval) → last ≡ w → w.end ≤ℤ last.end
    at_last w same = let ends = ap (λ (v : Interval). v.end) same in omega (arith, ints)

    later_start : (v w : Interval) → first ≡ v → IsNonEmpty v → IsBefore v w → first.start ≤ℤ w.start
    later_start v w same own before = let starts = ap (λ (u : Interval). u.start) same in omega (arith, ints)

    earlier_end : (v w : Interval) → last ≡ v → IsNonEmpty v → IsBefore w v → w.end ≤ℤ last.end
    earlier_end v w same own before = let ends = ap (λ (u : Interval). u.end) same in omega (arith, ints)

    first_at : (d : Interval) → first ≡ get_or run 0 d
    first_at d = is_first ∙ get_or_default run 0 first d some

    last_at : (d : Interval) → last ≡ get_or run (length run - 1) d
    last_at d = is_last ∙ get_or_default run (length run - 1) last d (omega arith)

    from_first : (k : ℕ) (d : Interval) → k < length run → (0 < k) ⊎ (k ≤ 0) → first.start ≤ℤ (get_or run k d).start
    from_first k d within (inl behind) = later_start (get_or run 0 d) (get_or run k d) (first_at d) (up.nonempty 0 d some) (up.ascending 0 k d behind within)
    from_first k d within (inr none) = let same : 0 ≡ k = omega arith in at_first (get_or run k d) (first_at d ∙ ap (λ n. get_or run n d) same)

    to_last : (k : ℕ) (d : Interval) → k < length run → (k < length run - 1) ⊎ (length run - 1 ≤ k) → (get_or run k d).end ≤ℤ last.end
    to_last k d within (inl before) =
        earlier_end (get_or run (length run - 1) d) (get_or run k d) (last_at d) (up.nonempty (length run - 1) d (omega arith))
        (up.ascending k (length run - 1) d before (omega arith))
    to_last k d within (inr behind) = let same : length run - 1 ≡ k = omega arith in at_last (get_or run k d) (last_at d ∙ ap (λ n. get_or run n d) same)

    -- the first window starts no later than the last, and ends no later
    in_order : (first.start ≤ℤ last.start) × (first.end ≤ℤ last.end)
    in_order =
        let low = from_first (length run - 1) last (omega arith) (cases_lt 0 (length run - 1)) in
        let high = to_last 0 first some (cases_lt 0 (length run - 1)) in
        (subst (λ (w : Interval). first.start ≤ℤ w.start) (sym is_last) low, subst (λ (w : Interval). w.end ≤ℤ last.end) (sym is_first) high)

    in_hull : (w : Interval) → first.start ≤ℤ w.start → w.end ≤ℤ last.end → LiesIn w (hull (hull x first) last)
    in_hull w low high = (omega (arith, ints, clamps), omega (arith, ints, clamps))

    starts : first.start <ℤ x.start → first.start ≡ (hull (hull x first) last).start
    starts before = omega (arith, ints, clamps, in_order.0)

    own_start : x.start ≤ℤ first.start → (hull (hull x first) last).start ≡ x.start
    own_start after = omega (arith, ints, clamps, in_order.0)

    stops : x.end <ℤ last.end → last.end ≡ (hull (hull x first) last).end
    stops after = omega (arith, ints, clamps, in_order.1)

    own_end : last.end ≤ℤ x.end → (hull (hull x first) last).end ≡ x.end
    own_end before = omega (arith, ints, clamps, in_order.1)

pub run_apart : (old : List Interval) (x : Interval) (front run back : List Interval) → AreApart old → IsRun old x front run back → AreApart run
run_apart old x front run back up found = apart_first run back (apart_second front (run ++ back) (subst AreApart found.was up))

-- a window is found equal to itself
pub equal_itself : (a b : Interval) → a ≡ b → false ≡ (int_eq a.start b.start && int_eq a.end b.end) → ⊥
equal_itself a b same test =
    let starts : a.start ≡ b.start = ap (λ (w : Interval). w.start) same in
    let ends : a.end ≡ b.end = ap (λ (w : Interval). w.end) same in
    grind (arith, ints)
