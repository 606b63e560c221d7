-- Sessions of sets of windows: of a list as a set, of sets that have the same windows, and any two of one set.
use Rattle.std.proofs.Common.{◌≡◌, ◌⊎◌, inl, inr, ◌<ℤ◌, List, subst, arith}
use Rattle.std.specs.List.{Any, Contains}
use Rattle.std.proofs.lemmas.Int.{ints, by_lt_z}
use Rattle.std.proofs.lemmas.List.Elements.{All-contains, All-weaker, All-contains_itself}
use Rattle.beam_values.specs.Intervals.{Interval}
use Rattle.beam_values.specs.Sessions.{IsApart, LiesIn, IsInside, IsNonEmpty, IsSessionOf, IsSession}

-- what belongs to two sets alike
pub session_moved : (S T : Interval → Type 0) (w : Interval) → ((s : Interval) → S s → T s) → ((s : Interval) → T s → S s) → IsSessionOf S w → IsSessionOf T w
session_moved S T w to from h = record {
  ordered = h.ordered;
  begins = (h.begins.0, to h.begins.0 h.begins.1, h.begins.2);
  ends = (h.ends.0, to h.ends.0 h.ends.1, h.ends.2);
  joined = λ x inside. let at = h.joined x inside in (at.0, to at.0 at.1, at.2);
  apart = λ s is. h.apart s (from s is);
}

-- a window of a list that has a property, and the property of a window of the list
any_from : (P : Interval → Type 0) (spans : List Interval) (s : Interval) → Contains spans s → P s → Any P spans
any_from P spans s at is = (at.0, s, at.1, at.2, is)

any_to : (P : Interval → Type 0) (spans : List Interval) → Any P spans → (s : Interval) × Contains spans s × P s
any_to P spans at = (at.1, (at.0, at.2, at.3), at.4)

-- the sessions of a list are those of the set of its windows
pub session_of_contained : (spans : List Interval) (w : Interval) → IsSession spans w → IsSessionOf (Contains spans) w
session_of_contained spans w h = record {
  ordered = h.ordered;
  begins = any_to (λ s. s.start ≡ w.start) spans h.begins;
  ends = any_to (λ s. s.end ≡ w.end) spans h.ends;
  joined = λ x inside. any_to (λ s. IsInside s x) spans (h.joined x inside);
  apart = λ s at. All-contains (λ t. LiesIn t w ⊎ IsApart t w) spans s h.apart at;
}

pub session_from_contained : (spans : List Interval) (w : Interval) → IsSessionOf (Contains spans) w → IsSession spans w
session_from_contained spans w h = record {
  ordered = h.ordered;
  begins = any_from (λ s. s.start ≡ w.start) spans h.begins.0 h.begins.1 h.begins.2;
  ends = any_from (λ s. s.end ≡ w.end) spans h.ends.0 h.ends.1 h.ends.2;
  joined = λ x inside. let at = h.joined x inside in any_from (λ s. IsInside s x) spans at.0 at.1 at.2;
  apart = All-weaker (Contains spans) (λ s. LiesIn s w ⊎ IsApart s w) h.apart spans (All-contains_itself spans);
}

-- the same, where a set says of a window that some window of the list is it
one_of : (spans : List Interval) (s : Interval) → Contains spans s → Any (λ t. t ≡ s) spans
one_of spans s at = any_from (λ t. t ≡ s) spans s at (λ i. s)

contained : (spans : List Interval) (s : Interval) → Any (λ t. t ≡ s) spans → Contains spans s
contained spans s at = subst (Contains spans) at.4 (at.0, at.2, at.3)

pub session_of_set : (spans : List Interval) (w : Interval) → IsSession spans w → IsSessionOf (λ s. Any (λ t. t ≡ s) spans) w
session_of_set spans w h =
    session_moved (Contains spans) (λ s. Any (λ t. t ≡ s) spans) w (one_of spans) (contained spans) (session_of_contained spans w h)

pub session_from_set : (spans : List Interval) (w : Interval) → IsSessionOf (λ s. Any (λ t. t ≡ s) spans) w → IsSession spans w
session_from_set spans w h =
    session_from_contained spans w (session_moved (λ s. Any (λ t. t ≡ s) spans) (Contains spans) w (contained spans) (one_of spans) h)

no_cover_of_start : (span w : Interval) → w.start <ℤ w.end → IsInside span w.start → (LiesIn span w ⊎ IsApart span w) → ⊥
no_cover_of_start span w ordered inside h = omega (arith, ints)

no_cover_of_end : (span w : Interval) → w.start <ℤ w.end → IsInside span w.end → (LiesIn span w ⊎ IsApart span w) → ⊥
no_cover_of_end span w ordered inside h = omega (arith, ints)

-- no session begins or ends inside another
module _ (S : Interval → Type 0) (a b : Interval) (x : IsSessionOf S a) (y : IsSessionOf S b) where
  not_begun_inside : IsInside a b.start → ⊥
  not_begun_inside inside = let at = x.joined b.start inside in no_cover_of_start at.0 b y.ordered at.2 (y.apart at.0 at.1)

  not_ended_inside : IsInside a b.end → ⊥
  not_ended_inside inside = let at = x.joined b.end inside in no_cover_of_end at.0 b y.ordered at.2 (y.apart at.0 at.1)

-- two sessions of one set are one or apart
pub one_or_apart : (S : Interval → Type 0) (a b : Interval) → IsSessionOf S a → IsSessionOf S b → (a ≡ b) ⊎ IsApart a b
one_or_apart S a b x y =
    by_lt_z b.start a.end
    (λ over. by_lt_z a.start b.end
    (λ under. inl (both (same_start over under) (same_end over under)))
    (λ apart. inr (inr apart)))
    (λ apart. inr (inl apart))
  where
    same_start : b.start <ℤ a.end → a.start <ℤ b.end → a.start ≡ b.start
    same_start over under =
        by_lt_z a.start b.start (λ later. absurd (not_begun_inside S a b x y (later, over)))
        (λ reached. by_lt_z b.start a.start (λ later. absurd (not_begun_inside S b a y x (later, under))) (λ back. omega (arith, ints)))

    same_end : b.start <ℤ a.end → a.start <ℤ b.end → a.end ≡ b.end
    same_end over under =
        by_lt_z a.end b.end (λ earlier. absurd (not_ended_inside S b a y x (over, earlier)))
        (λ reached. by_lt_z b.end a.end (λ earlier. absurd (not_ended_inside S a b x y (under, earlier))) (λ back. omega (arith, ints)))

    both : a.start ≡ b.start → a.end ≡ b.end → a ≡ b
    both p q = λ i. record { start = p i; end = q i }

not_in_both : (v a b : Interval) → IsNonEmpty v → LiesIn v a → LiesIn v b → IsApart a b → ⊥
not_in_both v a b some first second apart = omega (arith, ints)

-- a window that isn't empty lies in one session
pub one_that_holds : (S : Interval → Type 0) (v a b : Interval) → IsNonEmpty v → LiesIn v a → LiesIn v b → IsSessionOf S a → IsSessionOf S b → a ≡ b
one_that_holds S v a b some first second x y =
    elim (one_or_apart S a b x y) [ inl same ↦ same | inr apart ↦ absurd (not_in_both v a b some first second apart) ]
