-- What is merged of one bag is one bag.
use Rattle.std.proofs.Common.{◌≡◌, ◌⊎◌, inl, inr, ℕ, ◌<◌, ◌≤◌, Bool, true, false, ◌&&◌, cond, List, [], ◌∷◌, length, get_or, map, refl, sym, ap, subst, ◌∙◌, arith}
use Rattle.std.specs.List.{All, AllByRecursion, count_by, filter}
use Rattle.std.specs.Ordering.{int_eq}
use Rattle.std.specs.Prelude.{if◌then◌else◌}
use Rattle.std.proofs.lemmas.Bool.{and_from, and_parts}
use Rattle.std.proofs.lemmas.Bool.Decides.{Decides-int_eq}
use Rattle.std.proofs.lemmas.Int.{ints}
use Rattle.std.proofs.lemmas.List.{get_or-map, length-map}
use Rattle.std.proofs.lemmas.List.Elements.{recursion_from_All}
use Rattle.std.proofs.lemmas.List.Sums.{sum_by-cons}
use Rattle.beam_values.specs.Bags.{IsSameBag}
use Rattle.beam_values.specs.Intervals.{Interval}
use Rattle.beam_values.specs.Grouping.{key_of}
use Rattle.beam_values.specs.declared.element.Element.{Element}
use Rattle.beam_values.proofs.Bags.{bag_refl, bag_sym, bag_trans, bag_from_same, bag_map, bag_filter, bag_count, sum_by-map}
use Rattle.beam_values.specs.Sessions.{IsNonEmpty}
use Rattle.beam_values.specs.Sessions.{IsApart, LiesIn, IsInside, IsSession}
use Rattle.beam_model.specs.Sessions.{is_keyed, spans_of, Merged, IsMergedIn, in_session, IsMerging}
use Rattle.beam_model.proofs.Groupings.{own_cell, in_own_cell, same_cell, same_span}
use Rattle.beam_model.proofs.Matching.{any_moved, all_moved, count_member}
use Rattle.beam_model.proofs.Sessions.{sessions_one_or_apart, spans_alike}

-- ---- sessions are of the bag of the windows

spans_equal : Interval → Interval → Bool
spans_equal a b = int_eq a.start b.start && int_eq a.end b.end

span_itself : (a : Interval) → spans_equal a a ≡ true
unfolding spans_equal
span_itself a = and_from _ _ ((Decides-int_eq a.start a.start).1 refl) ((Decides-int_eq a.end a.end).1 refl)

span_sound : (a b : Interval) → spans_equal a b ≡ true → a ≡ b
unfolding spans_equal
span_sound a b e =
    let parts = and_parts (int_eq a.start b.start) (int_eq a.end b.end) e in
    same_span a b ((Decides-int_eq a.start b.start).0 parts.0) ((Decides-int_eq a.end b.end).0 parts.1)

session_moved : (xs ys : List Interval) (session : Interval) → IsSameBag xs ys → IsSession xs session → IsSession ys session
session_moved xs ys session same h = record {
  ordered = h.ordered;
  begins = any_moved spans_equal span_itself span_sound (λ span. span.start ≡ session.start) xs ys same h.begins;
  ends = any_moved spans_equal span_itself span_sound (λ span. span.end ≡ session.end) xs ys same h.ends;
  joined = λ x inside. any_moved spans_equal span_itself span_sound (λ span. IsInside span x) xs ys same (h.joined x inside);
  apart = all_moved spans_equal span_itself span_sound (λ span. LiesIn span session ⊎ IsApart span session) ys xs (bag_sym xs ys same) h.apart;
}

-- a window that holds a time lies in one session
not_in_both : (span a b : Interval) → IsNonEmpty span → LiesIn span a → LiesIn span b → IsApart a b → ⊥
not_in_both span a b some first second apart = omega (arith, ints)

one_of_both : (span a b : Interval) → IsNonEmpty span → LiesIn span a → LiesIn span b → (a ≡ b) ⊎ IsApart a b → a ≡ b
one_of_both span a b some first second (inl same) = same
one_of_both span a b some first second (inr apart) = absurd (not_in_both span a b some first second apart)

-- ---- the session of an element

-- the session of the first of some merged elements that is in the cell of this one
session_among : List Merged → Element → Interval
session_among [] e = e.span
session_among (m ∷ ms) e = if own_cell e m.element then m.session else session_among ms e

session_found : (ms : List Merged) (e : Element) (session : Interval) → AllByRecursion (λ m. own_cell e m.element ≡ true → m.session ≡ session) ms
    → 1 ≤ count_by (λ m. own_cell e m.element) ms → session_among ms e ≡ session
unfolding session_among
session_found [] e session all some = absurd (omega arith)
session_found (m ∷ ms) e session all some = by_test (own_cell e m.element) refl (session_found ms e session all.1)
  where
    by_test : (here : Bool) → own_cell e m.element ≡ here → (1 ≤ count_by (λ n. own_cell e n.element) ms → session_among ms e ≡ session)
        → (if here then m.session else session_among ms e) ≡ session
    by_test true is later = all.0 is
    by_test false is later =
        let none : cond {A = ℕ} (own_cell e m.element) 1 0 ≡ 0 = ap (λ (b : Bool). cond {A = ℕ} b 1 0) is in
        later (omega (arith, sum_by-cons (λ (n : Merged). cond {A = ℕ} (own_cell e n.element) 1 0) m ms))

abbrev in_session_among : List Merged → Element → Element
in_session_among ms e = record e { span = session_among ms e }

module _ (xs ys : List Element) (same : IsSameBag xs ys) (some : All (λ e. IsNonEmpty e.span) xs) where
  -- merged elements of one cell are in one session
  one_session : (m n : Merged) → IsMergedIn xs m → IsMergedIn ys n → IsNonEmpty m.element.span → own_cell n.element m.element ≡ true → m.session ≡ n.session
  one_session m n h k held inside =
      let cell = same_cell n.element m.element inside in
      let lies : LiesIn m.element.span n.session = subst (λ (span : Interval). LiesIn span n.session) (sym cell.spans) k.1 in
      let spans : IsSameBag (spans_of (key_of n.element) ys) (spans_of (key_of m.element) xs) =
      bag_sym (spans_of (key_of m.element) xs) (spans_of (key_of n.element) ys)
      (bag_trans (spans_of (key_of m.element) xs) (spans_of (key_of m.element) ys) (spans_of (key_of n.element) ys)
      (bag_map (λ e. e.span) (filter (is_keyed (key_of m.element)) xs) (filter (is_keyed (key_of m.element)) ys) (bag_filter (is_keyed (key_of m.element)) xs ys same))
      (bag_from_same (spans_of (key_of m.element) ys) (spans_of (key_of n.element) ys) (spans_alike ys (key_of m.element) (key_of n.element) cell.keys))) in
      one_of_both m.element.span m.session n.session held h.1 lies
      (sessions_one_or_apart (spans_of (key_of m.element) xs) m.session n.session h.0 (session_moved (spans_of (key_of n.element) ys) (spans_of (key_of m.element) xs) n.session spans k.0))

  module _ (ms ns : List Merged) (those : xs ≡ map (λ m. m.element) ms) (these : ys ≡ map (λ n. n.element) ns)
      (each : All (IsMergedIn xs) ms) (every : All (IsMergedIn ys) ns) where
    nonempty : (k : ℕ) (d : Merged) → k < length ms → IsNonEmpty (get_or ms k d).element.span
    nonempty k d within =
        subst (λ (e : Element). IsNonEmpty e.span) (get_or-map (λ m. m.element) ms k d d.element within)
        (subst (λ (es : List Element). All (λ e. IsNonEmpty e.span) es) those some k d.element (omega (arith, length-map ms (λ m. m.element))))

    -- each element of the one merging has its session among those of the other
    session_same : (k : ℕ) (d : Merged) → k < length ns → session_among ms (get_or ns k d).element ≡ (get_or ns k d).session
    session_same k d within =
        let n = get_or ns k d in
        let counted : count_by (λ m. own_cell n.element m.element) ms ≡ count_by (λ m. own_cell n.element m.element) ns =
        sym (sum_by-map (λ e. cond {A = ℕ} (own_cell n.element e) 1 0) (λ m. m.element) ms)
        ∙ sym (ap (count_by (own_cell n.element)) those)
        ∙ bag_count (own_cell n.element) xs ys same
        ∙ ap (count_by (own_cell n.element)) these
        ∙ sum_by-map (λ e. cond {A = ℕ} (own_cell n.element e) 1 0) (λ m. m.element) ns in
        session_found ms n.element n.session
        (recursion_from_All (λ m. own_cell n.element m.element ≡ true → m.session ≡ n.session) ms
        (λ j e inside. one_session (get_or ms j e) n (each j e inside) (every k d within) (nonempty j e inside)))
        (omega (arith, counted, count_member (λ m. own_cell n.element m.element) ns k d within (in_own_cell n.element)))

-- a merging makes of each element the one with the session that holds it
sessions_put : (ms ns : List Merged) → AllByRecursion (λ n. session_among ms n.element ≡ n.session) ns
    → map in_session ns ≡ map (in_session_among ms) (map (λ n. n.element) ns)
sessions_put ms [] h = refl
sessions_put ms (n ∷ ns) h =
    ap (λ (span : Interval). record n.element { span = span } ∷ map in_session ns) (sym h.0)
    ∙ ap (λ (es : List Element). in_session_among ms n.element ∷ es) (sessions_put ms ns h.1)

merging_is : (xs ys merged others : List Element) → IsSameBag xs ys → All (λ e. IsNonEmpty e.span) xs → (g : IsMerging xs merged) → IsMerging ys others
    → others ≡ map (in_session_among g.merged) ys
merging_is xs ys merged others same some g h =
    h.moved
    ∙ sessions_put g.merged h.merged
    (recursion_from_All (λ n. session_among g.merged n.element ≡ n.session) h.merged (session_same xs ys same some g.merged h.merged g.those h.those g.each h.each))
    ∙ ap (map (in_session_among g.merged)) (sym h.those)

pub mergings_agree : (xs ys merged others : List Element) → IsSameBag xs ys → All (λ e. IsNonEmpty e.span) xs → IsMerging xs merged → IsMerging ys others
    → IsSameBag merged others
mergings_agree xs ys merged others same some g h =
    bag_trans merged (map (in_session_among g.merged) xs) others
    (bag_from_same merged (map (in_session_among g.merged) xs) (merging_is xs xs merged merged (bag_refl xs) some g g))
    (bag_trans (map (in_session_among g.merged) xs) (map (in_session_among g.merged) ys) others
    (bag_map (in_session_among g.merged) xs ys same)
    (bag_sym others (map (in_session_among g.merged) ys) (bag_from_same others (map (in_session_among g.merged) ys) (merging_is xs ys merged others same some g h))))
