-- Sessions of the same windows are one or apart.
use Rattle.std.proofs.Common.{◌≡◌, ◌⊎◌, inl, inr, ℕ, ◌<◌, ◌<ℤ◌, ◌≤ℤ◌, List, length, get_or, map, sym, ap, subst, ◌∙◌, arith}
use Rattle.std.specs.List.{AllPairs, filter}
use Rattle.std.specs.Str.{bytes_eq}
use Rattle.std.proofs.lemmas.Int.{ints, by_lt_z}
use Rattle.std.proofs.lemmas.List.{get_or-map, length-map}
use Rattle.std.proofs.lemmas.Slice.Eq.{bytes_eq-Decides}
use Rattle.beam_values.specs.Intervals.{Interval}
use Rattle.beam_values.specs.Grouping.{key_of}
use Rattle.beam_values.specs.Spelling.{spelling}
use Rattle.beam_values.specs.declared.value.Value.{Value}
use Rattle.beam_values.specs.declared.element.Element.{Element}
use Rattle.beam_model.specs.Premises.{AreOneOrApart}
use Rattle.beam_values.specs.Sessions.{IsApart, LiesIn, IsInside, IsSession}
use Rattle.beam_model.specs.Sessions.{spans_of, Merged, IsMergedIn, in_session, IsMerging}

-- it ends no earlier than it starts
abbrev IsOrdered : Interval → Type 0
IsOrdered span = span.start ≤ℤ span.end

-- what covers the start of a session is part of it, so it doesn't start before it
no_cover_of_start : (span session : Interval) → IsOrdered session → IsInside span session.start → (LiesIn span session ⊎ IsApart span session) → ⊥
no_cover_of_start span session ordered inside h = omega (arith, ints)

no_cover_of_end : (span session : Interval) → IsOrdered session → IsInside span session.end → (LiesIn span session ⊎ IsApart span session) → ⊥
no_cover_of_end span session ordered inside h = omega (arith, ints)

module _ (spans : List Interval) (a b : Interval) (joined : IsSession spans a) (whole : IsSession spans b) (ordered : IsOrdered b) where
  -- no session begins or ends inside another
  not_begun_inside : IsInside a b.start → ⊥
  not_begun_inside inside =
      let at = joined.joined b.start inside in
      no_cover_of_start at.1 b ordered at.4 (subst (λ (s : Interval). LiesIn s b ⊎ IsApart s b) at.3 (whole.apart at.0 at.1 at.2))

  not_ended_inside : IsInside a b.end → ⊥
  not_ended_inside inside =
      let at = joined.joined b.end inside in
      no_cover_of_end at.1 b ordered at.4 (subst (λ (s : Interval). LiesIn s b ⊎ IsApart s b) at.3 (whole.apart at.0 at.1 at.2))

sessions_apart : (spans : List Interval) (a b : Interval) → IsOrdered a → IsOrdered b → IsSession spans a → IsSession spans b → (a ≡ b) ⊎ IsApart a b
sessions_apart spans a b first second x y =
    by_lt_z b.start a.end
    (λ over. by_lt_z a.start b.end
    (λ under. inl (both (same_start over under) (same_end over under)))
    (λ apart. inr (inr apart)))
    (λ apart. inr (inl apart))
  where
    same_start : b.start <ℤ a.end → a.start <ℤ b.end → a.start ≡ b.start
    same_start over under =
        by_lt_z a.start b.start (λ later. absurd (not_begun_inside spans a b x y second (later, over)))
        (λ reached. by_lt_z b.start a.start (λ later. absurd (not_begun_inside spans b a y x first (later, under))) (λ back. omega (arith, ints)))

    same_end : b.start <ℤ a.end → a.start <ℤ b.end → a.end ≡ b.end
    same_end over under =
        by_lt_z a.end b.end (λ earlier. absurd (not_ended_inside spans b a y x first (over, earlier)))
        (λ reached. by_lt_z b.end a.end (λ earlier. absurd (not_ended_inside spans a b x y second (under, earlier))) (λ back. omega (arith, ints)))

    both : a.start ≡ b.start → a.end ≡ b.end → a ≡ b
    both p q = λ i. record { start = p i; end = q i }

-- no session is empty, so two of them are one or apart
pub sessions_one_or_apart : (spans : List Interval) (a b : Interval) → IsSession spans a → IsSession spans b → (a ≡ b) ⊎ IsApart a b
sessions_one_or_apart spans a b x y =
    let first : IsOrdered a = omega (arith, ints, x.ordered) in
    let second : IsOrdered b = omega (arith, ints, y.ordered) in
    sessions_apart spans a b first second x y

-- windows of keys that are spelled alike are the same
pub spans_alike : (elements : List Element) (a b : Value) → spelling a ≡ spelling b → spans_of a elements ≡ spans_of b elements
spans_alike elements a b same = ap (λ (spelled : List ℕ). map (λ e. e.span) (filter (λ e. bytes_eq (spelling (key_of e)) spelled) elements)) same

two_merged : (elements : List Element) (key : Value) (m n : Merged) → IsMergedIn elements m → IsMergedIn elements n
    → AreOneOrApart key (in_session m) (in_session n)
two_merged elements key m n h k p q =
    let a : spelling (key_of m.element) ≡ spelling key = (bytes_eq-Decides (spelling (key_of m.element)) (spelling key)).0 p in
    let b : spelling (key_of n.element) ≡ spelling key = (bytes_eq-Decides (spelling (key_of n.element)) (spelling key)).0 q in
    sessions_one_or_apart (spans_of (key_of m.element) elements) m.session n.session h.0 (subst (λ (spans : List Interval). IsSession spans n.session) (spans_alike elements (key_of n.element) (key_of m.element) (b ∙ sym a)) k.0)

pub merged_apart : (elements sessioned : List Element) (key : Value) → IsMerging elements sessioned
    → AllPairs (AreOneOrApart key) sessioned
merged_apart elements sessioned key merging = subst (λ (es : List Element). AllPairs (AreOneOrApart key) es) (sym merging.moved) pairs
  where
    pairs : AllPairs (AreOneOrApart key) (map in_session merging.merged)
    pairs i j d before inside =
        let within : j < length merging.merged = omega (arith, length-map merging.merged in_session) in
        let short : i < length merging.merged = omega arith in
        let none : Merged = record { element = d; session = d.span } in
        subst (λ (e : Element). AreOneOrApart key e (get_or (map in_session merging.merged) j d)) (sym (get_or-map in_session merging.merged i none d short))
        (subst (λ (e : Element). AreOneOrApart key (in_session (get_or merging.merged i none)) e) (sym (get_or-map in_session merging.merged j none d within))
        (two_merged elements key (get_or merging.merged i none) (get_or merging.merged j none)
        (merging.each i none short) (merging.each j none within)))
