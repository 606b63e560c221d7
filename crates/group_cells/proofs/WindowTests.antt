-- Tests of windows, and what they say.
use Rattle.std.proofs.Common.{◌≡◌, ◌⊎◌, inl, inr, Bool, true, false, refl, sym, ap, ◌∙◌, arith}
use Rattle.std.specs.Prelude.{◌≤ℤ◌, ◌<ℤ◌, ℤ, if◌then◌else◌, int_le, int_lt}
use Rattle.std.specs.Ordering.{int_eq}
use Rattle.std.proofs.lemmas.Bool.{cases_Bool, and_from, and_parts}
use Rattle.std.proofs.lemmas.Bool.Decides.{Decides-int_eq}
use Rattle.std.proofs.lemmas.Int.{ints}
use Rattle.beam_values.specs.Intervals.{Interval}
use Rattle.beam_values.specs.Sessions.{IsApart, IsNonEmpty, LiesIn, Overlaps}
use Rattle.beam_values.specs.Spans.{same_span, lies_in}
use Rattle.group_cells.specs.KnownWindows.{overlaps}

-- an own window belongs to one that is it; where windows merge, to each in which it lies
abbrev pub fits : Bool → Interval → Interval → Bool
fits merges own w = if merges then lies_in own w else same_span own w

pub same_interval : (a b : Interval) → a.start ≡ b.start → a.end ≡ b.end → a ≡ b
same_interval a b p q = λ i. record { start = p i; end = q i }

pub span_itself : (a : Interval) → same_span a a ≡ true
span_itself a = and_from _ _ ((Decides-int_eq a.start a.start).1 refl) ((Decides-int_eq a.end a.end).1 refl)

pub span_sound : (a b : Interval) → same_span a b ≡ true → a ≡ b
span_sound a b e =
    let parts = and_parts (int_eq a.start b.start) (int_eq a.end b.end) e in
    same_interval a b ((Decides-int_eq a.start b.start).0 parts.0) ((Decides-int_eq a.end b.end).0 parts.1)

pub off_itself : (w s : Interval) → w ≡ s → same_span w s ≡ false → ⊥
off_itself w s same off = let no_ : true ≡ false = sym (span_itself w) ∙ ap (same_span w) same ∙ off in absurd (cc)

pub off_back : (a b : Interval) → same_span a b ≡ false → same_span b a ≡ false
off_back a b off = elim (cases_Bool (same_span b a)) [
  | inl on ↦ absurd (off_itself a b (sym (span_sound b a on)) off)
  | inr none ↦ none
]

pub lies_from : (own w : Interval) → lies_in own w ≡ true → LiesIn own w
lies_from own w e =
    let parts = and_parts (int_le w.start own.start) (int_le own.end w.end) e in
    let a = parts.0 in
    let b = parts.1 in
    (grind (arith, ints), grind (arith, ints))

pub lies_test : (own w : Interval) → LiesIn own w → lies_in own w ≡ true
lies_test own w h =
    let a = h.0 in
    let b = h.1 in
    let p : int_le w.start own.start ≡ true = grind (arith, ints) in
    let q : int_le own.end w.end ≡ true = grind (arith, ints) in
    and_from _ _ p q

pub lies_itself : (v : Interval) → LiesIn v v
lies_itself v = (omega (arith, ints), omega (arith, ints))

pub lies_onward : (u v w : Interval) → LiesIn u v → LiesIn v w → LiesIn u w
lies_onward u v w p q = (omega (arith, ints), omega (arith, ints))

not_in_both : (v a b : Interval) → IsNonEmpty v → LiesIn v a → LiesIn v b → IsApart a b → ⊥
not_in_both v a b some first second apart = omega (arith, ints)

-- a window that isn't empty lies in one of those that are one or apart
pub one_of_both : (v a b : Interval) → IsNonEmpty v → LiesIn v a → LiesIn v b → (a ≡ b) ⊎ IsApart a b → a ≡ b
one_of_both v a b some first second (inl same) = same
one_of_both v a b some first second (inr apart) = absurd (not_in_both v a b some first second apart)

-- ---- windows that overlap

pub lt_from : (a b : ℤ) → int_lt a b ≡ true → a <ℤ b
lt_from a b e = omega (arith, ints)

pub le_from : (a b : ℤ) → int_lt a b ≡ false → b ≤ℤ a
le_from a b e = omega (arith, ints)

pub lt_test : (a b : ℤ) → a <ℤ b → int_lt a b ≡ true
lt_test a b h = grind (arith, ints)

pub overlap_from : (a b : Interval) → overlaps a b ≡ true → Overlaps a b
overlap_from a b e = let parts = and_parts (int_lt a.start b.end) (int_lt b.start a.end) e in (lt_from a.start b.end parts.0, lt_from b.start a.end parts.1)

pub overlap_test : (a b : Interval) → Overlaps a b → overlaps a b ≡ true
overlap_test a b h = and_from (int_lt a.start b.end) (int_lt b.start a.end) (lt_test a.start b.end h.0) (lt_test b.start a.end h.1)

pub apart_from : (a b : Interval) → overlaps a b ≡ false → IsApart a b
apart_from a b off = by (int_lt a.start b.end) refl (int_lt b.start a.end) refl
  where
    by : (x : Bool) → int_lt a.start b.end ≡ x → (y : Bool) → int_lt b.start a.end ≡ y → IsApart a b
    by false e y f = inr (le_from a.start b.end e)
    by true e false f = inl (le_from b.start a.end f)
    by true e true f = let no_ : true ≡ false = sym (and_from (int_lt a.start b.end) (int_lt b.start a.end) e f) ∙ off in absurd (cc)

pub apart_test : (a b : Interval) → IsApart a b → overlaps a b ≡ false
apart_test a b apart = elim (cases_Bool (overlaps a b)) [
  | inl on ↦ absurd (never a b (overlap_from a b on) apart)
  | inr off ↦ off
]
  where
    never : (a b : Interval) → Overlaps a b → IsApart a b → ⊥
    never a b h (inl before) = let p = h.0 in let q = h.1 in omega (arith, ints)
    never a b h (inr behind) = let p = h.0 in let q = h.1 in omega (arith, ints)

-- one that lies in a window overlaps it
pub lies_overlaps : (own w : Interval) → IsNonEmpty own → LiesIn own w → overlaps own w ≡ true
lies_overlaps own w some h = overlap_test own w (let a = h.0 in let b = h.1 in (omega (arith, ints), omega (arith, ints)))

pub overlaps_back : (a b : Interval) → overlaps a b ≡ true → overlaps b a ≡ true
overlaps_back a b h = let o = overlap_from a b h in overlap_test b a (o.1, o.0)
