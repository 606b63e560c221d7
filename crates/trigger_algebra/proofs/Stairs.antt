-- The steps of a function: what they meet, that they are a staircase, and how many they are.
use Rattle.std.proofs.Common.{◌≡◌, ℕ, ◌+◌, ◌<◌, ◌≤◌, ℤ, Bool, true, false, Option, Some, None, List, [], ◌∷◌, ◌++◌, length, refl, sym, ap, subst, ◌∙◌, arith}
use Rattle.std.specs.Prelude.{◌||◌, ◌&&◌, nat_le, nat_lt, if◌then◌else◌}
use Rattle.std.specs.List.{list_any, list_all, AllByRecursion}
use Rattle.std.proofs.Math.Bool.{and-true, and-false}
use Rattle.std.proofs.lemmas.Bool.{and_from}
use Rattle.std.proofs.lemmas.Bool.Decides.{nat_tests}
use Rattle.beam_values.specs.declared.plan.Bar.{Bar}
use Rattle.beam_values.specs.Checked.{are_stairs_after, is_bar_within, is_count, is_less_delay, is_stair}
use Rattle.beam_values.specs.Firing.{met}
use Rattle.trigger_algebra.specs.declared.need.Need.{Need}
use Rattle.trigger_algebra.specs.declared.need.Need.TheVariants.{Always, From, Never}
use Rattle.trigger_algebra.specs.Staircases.{bar_at, is_less, stairs_of}
use Rattle.trigger_algebra.proofs.Needs.{meets, unmet_above, is_need_within}
use Rattle.trigger_algebra.proofs.Rising.{AreAbove, Rises, above_less}

-- so many are enough for the count, and the mark meets the need there
abbrev pub meets_at : (ℕ → Need) → ℕ → ℤ → ℕ → Bool
meets_at need unseen past count = nat_le count unseen && meets past (need count)

met-bar : (unseen : ℕ) (past : ℤ) (count : ℕ) (need : Need) (bars : List Bar)
    → met (bar_at count need ++ bars) unseen past ≡ ((nat_le count unseen && meets past need) || met bars unseen past)
met-bar unseen past count Always bars = refl
met-bar unseen past count (From delay) bars = refl
met-bar unseen past count Never bars = sym (ap (λ t. t || met bars unseen past) (and-false (nat_le count unseen)))

not_yet : (count unseen : ℕ) → unseen < count → nat_le count unseen ≡ false
not_yet count unseen less = grind (arith, nat_tests)

-- ---- what the steps meet

module _ (need : ℕ → Need) (unseen : ℕ) (past : ℤ) where
  -- no bar asks for so few
  later_unmet : (counts : List ℕ) (last : Need) → AreAbove unseen counts → met (stairs_of need last counts) unseen past ≡ false
  later_unmet [] last above = refl
  later_unmet (count ∷ counts) last above =
      by_test (is_less (need count) last) (not_yet count unseen above.0) (later_unmet counts (need count) above.1) (later_unmet counts last above.1)
    where
      by_test : (less : Bool) → nat_le count unseen ≡ false → met (stairs_of need (need count) counts) unseen past ≡ false → met (stairs_of need last counts) unseen past ≡ false
          → met (if less then bar_at count (need count) ++ stairs_of need (need count) counts else stairs_of need last counts) unseen past ≡ false
      by_test true few below same =
          met-bar unseen past count (need count) (stairs_of need (need count) counts)
          ∙ ap (λ t. (t && meets past (need count)) || met (stairs_of need (need count) counts) unseen past) few
          ∙ below
      by_test false few below same = same

  later_none : (counts : List ℕ) → AreAbove unseen counts → list_any (meets_at need unseen past) counts ≡ false
  later_none [] above = refl
  later_none (count ∷ counts) above = ap (λ t. (t && meets past (need count)) || list_any (meets_at need unseen past) counts) (not_yet count unseen above.0) ∙ later_none counts above.1

  enough_or_above : (count : ℕ) (counts : List ℕ) (enough : Bool) → nat_le count unseen ≡ enough → AreAbove count counts
      → (enough || met (stairs_of need (need count) counts) unseen past) ≡ (enough || list_any (meets_at need unseen past) counts)
  enough_or_above count counts true is above = refl
  enough_or_above count counts false is above =
      let less = above_less unseen count counts (fewer count unseen is) above in
      later_unmet counts (need count) less ∙ sym (later_none counts less)
    where
      fewer : (m n : ℕ) → nat_le m n ≡ false → n < m
      fewer m n e = grind (arith, nat_tests)

  -- a bar of the steps is met exactly where the need is, at one of the counts
  pub stairs_meet : (counts : List ℕ) (last : Need) → Rises counts → meets past last ≡ false
      → met (stairs_of need last counts) unseen past ≡ list_any (meets_at need unseen past) counts
  stairs_meet [] last up unmet = refl
  stairs_meet (count ∷ counts) last up unmet =
      by_test (is_less (need count) last) refl (meets past (need count)) refl (λ none. stairs_meet counts (need count) up.1 none) (stairs_meet counts last up.1 unmet)
    where
      by_test : (less : Bool) → is_less (need count) last ≡ less → (here : Bool) → meets past (need count) ≡ here
          → (meets past (need count) ≡ false → met (stairs_of need (need count) counts) unseen past ≡ list_any (meets_at need unseen past) counts)
          → met (stairs_of need last counts) unseen past ≡ list_any (meets_at need unseen past) counts
          → met (if less then bar_at count (need count) ++ stairs_of need (need count) counts else stairs_of need last counts) unseen past
          ≡ ((nat_le count unseen && meets past (need count)) || list_any (meets_at need unseen past) counts)
      by_test true e true f below same =
          met-bar unseen past count (need count) (stairs_of need (need count) counts)
          ∙ ap (λ t. (nat_le count unseen && t) || met (stairs_of need (need count) counts) unseen past) f
          ∙ ap (λ t. t || met (stairs_of need (need count) counts) unseen past) (and-true (nat_le count unseen))
          ∙ enough_or_above count counts (nat_le count unseen) refl up.0
          ∙ sym (ap (λ t. t || list_any (meets_at need unseen past) counts) (and-true (nat_le count unseen)))
          ∙ sym (ap (λ t. (nat_le count unseen && t) || list_any (meets_at need unseen past) counts) f)
      by_test true e false f below same =
          met-bar unseen past count (need count) (stairs_of need (need count) counts)
          ∙ ap (λ t. (nat_le count unseen && meets past (need count)) || t) (below f)
      by_test false e here f below same =
          same
          ∙ sym (ap (λ t. t || list_any (meets_at need unseen past) counts) (and-false (nat_le count unseen)))
          ∙ sym (ap (λ t. (nat_le count unseen && t) || list_any (meets_at need unseen past) counts) (unmet_above past (need count) last unmet e))

-- ---- that they are a staircase

-- the delay of a bar of this need
abbrev IsDelay : Option ℤ → Need → Type 0
IsDelay delay Always = delay ≡ None
IsDelay delay (From ms) = delay ≡ Some ms
IsDelay delay Never = ⊥

abbrev IsAfter : Option Bar → Need → List ℕ → Type 0
IsAfter None last counts = Unit {0}
IsAfter (Some before) last counts = IsDelay before.delay last × AreAbove before.count counts

less_delay : (before after : Option ℤ) (last need : Need) → IsDelay before last → IsDelay after need → is_less need last ≡ true → is_less_delay before after ≡ true
less_delay before after Always Always e f less = absurd cc
less_delay before after Always (From delay) e f less = absurd cc
less_delay before after Always Never e f less = absurd f
less_delay before after (From other) Always e f less = ap (λ d. is_less_delay d after) e ∙ ap (is_less_delay (Some other)) f
less_delay before after (From other) (From delay) e f less = ap (λ d. is_less_delay d after) e ∙ ap (is_less_delay (Some other)) f ∙ less
less_delay before after (From other) Never e f less = absurd f
less_delay before after Never need e f less = absurd e

next_stair : (before : Option Bar) (last need : Need) (count : ℕ) (counts : List ℕ) (delay : Option ℤ) → IsAfter before last (count ∷ counts) → IsDelay delay need
    → is_less need last ≡ true → is_stair before (record { count = count; delay = delay }) ≡ true
next_stair None last need count counts delay after is less = refl
next_stair (Some before) last need count counts delay after is less =
    and_from _ _ (lt_test before.count count after.1.0) (less_delay before.delay delay last need after.0 is less)
  where
    lt_test : (m n : ℕ) → m < n → nat_lt m n ≡ true
    lt_test m n h = grind (arith, nat_tests)

after_more : (before : Option Bar) (last : Need) (count : ℕ) (counts : List ℕ) → IsAfter before last (count ∷ counts) → IsAfter before last counts
after_more None last count counts after = tt
after_more (Some before) last count counts after = (after.0, after.1.1)

pub stairs_rise : (need : ℕ → Need) (counts : List ℕ) (last : Need) (before : Option Bar) → Rises counts → IsAfter before last counts
    → are_stairs_after before (stairs_of need last counts) ≡ true
stairs_rise need [] last before up after = refl
stairs_rise need (count ∷ counts) last before up after =
    by_test (is_less (need count) last) refl (need count) refl
    (λ delay is. stairs_rise need counts (need count) (Some (record { count = count; delay = delay })) up.1 (is, up.0))
    (stairs_rise need counts last before up.1 (after_more before last count counts after))
  where
    by_test : (less : Bool) → is_less (need count) last ≡ less → (here : Need) → need count ≡ here
        → ((delay : Option ℤ) → IsDelay delay (need count) → are_stairs_after (Some (record { count = count; delay = delay })) (stairs_of need (need count) counts) ≡ true)
        → are_stairs_after before (stairs_of need last counts) ≡ true
        → are_stairs_after before (if less then bar_at count here ++ stairs_of need (need count) counts else stairs_of need last counts) ≡ true
    by_test true e Always f below same =
        let delay : IsDelay None (need count) = subst (IsDelay None) (sym f) refl in
        and_from _ _ (next_stair before last (need count) count counts None after delay e) (below None delay)
    by_test true e (From ms) f below same =
        let delay : IsDelay (Some ms) (need count) = subst (IsDelay (Some ms)) (sym f) refl in
        and_from _ _ (next_stair before last (need count) count counts (Some ms) after delay e) (below (Some ms) delay)
    by_test true e Never f below same = let no = never_less last in let less = ap (λ n. is_less n last) f in absurd cc
      where
        never_less : (n : Need) → is_less Never n ≡ false
        never_less n = refl
    by_test false e here f below same = same

-- ---- bounds, and how many

bar_within : (low high : ℤ) (count : ℕ) (need : Need) (bars : List Bar) → is_count count ≡ true → is_need_within low high need ≡ true
    → list_all (is_bar_within low high) bars ≡ true → list_all (is_bar_within low high) (bar_at count need ++ bars) ≡ true
bar_within low high count Always bars counted within rest = and_from _ _ (and_from _ _ counted refl) rest
bar_within low high count (From delay) bars counted within rest = and_from _ _ (and_from _ _ counted within) rest
bar_within low high count Never bars counted within rest = rest

pub stairs_within : (low high : ℤ) (need : ℕ → Need) (counts : List ℕ) (last : Need) → AllByRecursion (λ count. is_count count ≡ true) counts
    → ((count : ℕ) → is_need_within low high (need count) ≡ true) → list_all (is_bar_within low high) (stairs_of need last counts) ≡ true
stairs_within low high need [] last counted within = refl
stairs_within low high need (count ∷ counts) last counted within =
    by_test (is_less (need count) last) (stairs_within low high need counts (need count) counted.1 within) (stairs_within low high need counts last counted.1 within)
  where
    by_test : (less : Bool) → list_all (is_bar_within low high) (stairs_of need (need count) counts) ≡ true → list_all (is_bar_within low high) (stairs_of need last counts) ≡ true
        → list_all (is_bar_within low high) (if less then bar_at count (need count) ++ stairs_of need (need count) counts else stairs_of need last counts) ≡ true
    by_test true below same = bar_within low high count (need count) (stairs_of need (need count) counts) counted.0 (within count) below
    by_test false below same = same

length-bar : (count : ℕ) (need : Need) (bars : List Bar) → length (bar_at count need ++ bars) ≤ length bars + 1
length-bar count Always bars = omega arith
length-bar count (From delay) bars = omega arith
length-bar count Never bars = omega arith

pub length-stairs : (need : ℕ → Need) (counts : List ℕ) (last : Need) → length (stairs_of need last counts) ≤ length counts
length-stairs need [] last = omega arith
length-stairs need (count ∷ counts) last = by_test (is_less (need count) last) (length-stairs need counts (need count)) (length-stairs need counts last)
  where
    by_test : (less : Bool) → length (stairs_of need (need count) counts) ≤ length counts → length (stairs_of need last counts) ≤ length counts
        → length (if less then bar_at count (need count) ++ stairs_of need (need count) counts else stairs_of need last counts) ≤ length (count ∷ counts)
    by_test true below same = omega (arith, length-bar count (need count) (stairs_of need (need count) counts))
    by_test false below same = omega arith
