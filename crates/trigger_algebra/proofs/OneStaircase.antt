-- Staircases of which a bar is met alike are the same: the first bar, where it is met and later ones aren't, and then the rest.
use Rattle.std.proofs.Common.{◌≡◌, inl, inr, ℕ, ◌≤◌, ◌<◌, ℤ, pos, ◌-ℤ◌, Bool, true, false, Option, Some, None, List, [], ◌∷◌, refl, sym, ap, ap₂, subst, ◌∙◌, arith}
use Rattle.std.specs.Prelude.{◌||◌, ◌&&◌, nat_le, nat_lt, int_le, int_lt}
use Rattle.std.specs.List.{list_all}
use Rattle.std.proofs.Math.Bool.{and-false}
use Rattle.std.proofs.lemmas.Bool.{and_parts, cases_lt}
use Rattle.std.proofs.lemmas.Bool.Decides.{nat_tests}
use Rattle.std.proofs.lemmas.Int.{ints}
use Rattle.beam_values.specs.declared.plan.Bar.{Bar}
use Rattle.beam_values.specs.Checked.{are_bars_allowed, are_stairs_after, is_bar_within, is_count, is_delay_within, is_less_delay, is_stair}
use Rattle.beam_values.specs.Firing.{is_past, met}

-- ---- numbers

le_is : (m n : ℕ) → nat_le m n ≡ true → m ≤ n
le_is m n e = grind (arith, nat_tests)

lt_is : (m n : ℕ) → nat_lt m n ≡ true → m < n
lt_is m n e = grind (arith, nat_tests)

itself : (n : ℕ) → nat_le n n ≡ true
itself n = grind (arith, nat_tests)

not_yet : (m n : ℕ) → n < m → nat_le m n ≡ false
not_yet m n less = grind (arith, nat_tests)

itself_past : (d : ℤ) → int_le d d ≡ true
itself_past d = grind (arith, ints)

one_before : (d : ℤ) → int_le d (d -ℤ pos 1) ≡ false
one_before d = grind (arith, ints)

not_past : (d e : ℤ) → int_lt d e ≡ true → int_le e d ≡ false
not_past d e less = grind (arith, ints)

not_past_before : (d e : ℤ) → int_lt d e ≡ true → int_le e (d -ℤ pos 1) ≡ false
not_past_before d e less = grind (arith, ints)

still_not_past : (d e p : ℤ) → int_lt d e ≡ true → int_le d p ≡ false → int_le e p ≡ false
still_not_past d e p less before = grind (arith, ints)

neither : (d e : ℤ) → int_lt d e ≡ false → int_lt e d ≡ false → d ≡ e
neither d e f g = grind (arith, ints)

-- ---- marks at which the bar before isn't met

abbrev IsBelow : Option Bar → ℤ → Type 0
IsBelow None past = Unit {0}
IsBelow (Some before) past = is_past before.delay past ≡ false

below_by : (before after : Option ℤ) (past : ℤ) → is_less_delay before after ≡ true → is_past after past ≡ false → is_past before past ≡ false
below_by (Some before) (Some after) past less unmet = still_not_past after before past less unmet
below_by (Some before) None past less unmet = absurd cc
below_by None after past less unmet = absurd cc

-- where a bar isn't met, the one before it isn't
still_below : (before : Option Bar) (bar : Bar) (past : ℤ) → is_stair before bar ≡ true → is_past bar.delay past ≡ false → IsBelow before past
still_below None bar past stair unmet = tt
still_below (Some before) bar past stair unmet = below_by before.delay bar.delay past (and_parts _ _ stair).1 unmet

point_by : (before after : Option ℤ) → is_less_delay before after ≡ true → (past : ℤ) × (is_past before past ≡ false) × (is_past after past ≡ true)
point_by (Some before) (Some after) less = (after, not_past after before less, itself_past after)
point_by (Some before) None less = (before -ℤ pos 1, one_before before, refl)
point_by None after less = absurd cc

start_by : (after : Option ℤ) → (past : ℤ) × (is_past after past ≡ true)
start_by None = (pos 0, refl)
start_by (Some after) = (after, itself_past after)

-- a mark at which a bar is met and the one before it isn't
point : (before : Option Bar) (bar : Bar) → is_stair before bar ≡ true → (past : ℤ) × IsBelow before past × (is_past bar.delay past ≡ true)
point None bar stair = let at = start_by bar.delay in (at.0, tt, at.1)
point (Some before) bar stair = point_by before.delay bar.delay (and_parts _ _ stair).1

-- ---- bars

met_first : (bar : Bar) (bars : List Bar) (past : ℤ) → is_past bar.delay past ≡ true → met (bar ∷ bars) bar.count past ≡ true
met_first bar bars past e = ap (λ t. (t && is_past bar.delay past) || met bars bar.count past) (itself bar.count) ∙ ap (λ t. t || met bars bar.count past) e

-- bars after another one ask for more than that
met_few : (before : Bar) (bars : List Bar) (unseen : ℕ) (past : ℤ) → are_stairs_after (Some before) bars ≡ true → unseen ≤ before.count → met bars unseen past ≡ false
met_few before [] unseen past stairs few = refl
met_few before (bar ∷ bars) unseen past stairs few =
    let parts = and_parts (is_stair (Some before) bar) (are_stairs_after (Some bar) bars) stairs in
    let more = lt_is before.count bar.count (and_parts _ _ parts.0).0 in
    ap (λ t. (t && is_past bar.delay past) || met bars unseen past) (not_yet bar.count unseen (omega arith))
    ∙ met_few bar bars unseen past parts.1 (omega arith)

met_none : (bar : Bar) (bars : List Bar) (unseen : ℕ) (past : ℤ) → are_stairs_after (Some bar) bars ≡ true → unseen < bar.count → met (bar ∷ bars) unseen past ≡ false
met_none bar bars unseen past stairs less =
    ap (λ t. (t && is_past bar.delay past) || met bars unseen past) (not_yet bar.count unseen less) ∙ met_few bar bars unseen past stairs (omega arith)

-- at its own count only the first bar counts
met_here : (bar : Bar) (bars : List Bar) (past : ℤ) → are_stairs_after (Some bar) bars ≡ true → met (bar ∷ bars) bar.count past ≡ is_past bar.delay past
met_here bar bars past stairs =
    ap (λ t. (t && is_past bar.delay past) || met bars bar.count past) (itself bar.count)
    ∙ ap (λ t. is_past bar.delay past || t) (met_few bar bars bar.count past stairs (omega arith))
    ∙ alone (is_past bar.delay past)
  where
    alone : (t : Bool) → (t || false) ≡ t
    alone true = refl
    alone false = refl

-- where the first bar isn't met the rest decides
met_rest : (bar : Bar) (bars : List Bar) (unseen : ℕ) (past : ℤ) → is_past bar.delay past ≡ false → met (bar ∷ bars) unseen past ≡ met bars unseen past
met_rest bar bars unseen past unmet =
    ap (λ t. (nat_le bar.count unseen && t) || met bars unseen past) unmet ∙ ap (λ t. t || met bars unseen past) (and-false (nat_le bar.count unseen))

-- ---- the same

abbrev Agree : Option Bar → List Bar → List Bar → Type 0
Agree before bars others = (unseen : ℕ) (past : ℤ) → 1 ≤ unseen → IsBelow before past → met bars unseen past ≡ met others unseen past

agree_back : (before : Option Bar) (bars others : List Bar) → Agree before bars others → Agree before others bars
agree_back before bars others agree unseen past some below = sym (agree unseen past some below)

abbrev ask : List Bar → Bool
ask bars = list_all (λ bar. nat_le 1 bar.count) bars

no_more : (before : Option Bar) (bar : Bar) (bars : List Bar) → is_stair before bar ≡ true → 1 ≤ bar.count → Agree before [] (bar ∷ bars) → ⊥
no_more before bar bars stair some agree =
    let at = point before bar stair in
    let met_there = agree bar.count at.0 some at.1 ∙ met_first bar bars at.0 at.2 in
    absurd cc

not_fewer : (before : Option Bar) (bar : Bar) (bars : List Bar) (other : Bar) (others : List Bar) → is_stair before bar ≡ true → are_stairs_after (Some other) others ≡ true
    → 1 ≤ bar.count → Agree before (bar ∷ bars) (other ∷ others) → bar.count < other.count → ⊥
not_fewer before bar bars other others stair stairs some agree less =
    let at = point before bar stair in
    let unmet = sym (met_first bar bars at.0 at.2) ∙ agree bar.count at.0 some at.1 ∙ met_none other others bar.count at.0 stairs less in
    absurd cc

same_delay : (before : Option Bar) (count : ℕ) (delay other : Option ℤ) → is_stair before (record { count = count; delay = delay }) ≡ true
    → is_stair before (record { count = count; delay = other }) ≡ true → ((past : ℤ) → IsBelow before past → is_past delay past ≡ is_past other past) → delay ≡ other
same_delay before count None None stair stairs alike = refl
same_delay before count (Some d) None stair stairs alike =
    let e = alike (d -ℤ pos 1) (still_below before (record { count = count; delay = Some d }) (d -ℤ pos 1) stair (one_before d)) in
    let unmet = one_before d in
    absurd cc
same_delay before count None (Some d) stair stairs alike =
    let e = alike (d -ℤ pos 1) (still_below before (record { count = count; delay = Some d }) (d -ℤ pos 1) stairs (one_before d)) in
    let unmet = one_before d in
    absurd cc
same_delay before count (Some d) (Some e) stair stairs alike = ap Some (neither d e (by_less d e alike_one) (by_less e d alike_other))
  where
    -- at the lesser of the two, which is below the bar before as well as one before it is
    by_less : (d e : ℤ) → (int_lt d e ≡ true → ⊥) → int_lt d e ≡ false
    by_less d e never = by_test (int_lt d e) never
      where
        by_test : (t : Bool) → (t ≡ true → ⊥) → t ≡ false
        by_test true never = absurd (never refl)
        by_test false never = refl

    alike_one : int_lt d e ≡ true → ⊥
    alike_one less =
        let below = still_below before (record { count = count; delay = Some e }) d stairs (not_past d e less) in
        let same = alike d below in
        let yes = itself_past d in
        let unmet = not_past d e less in
        absurd cc

    alike_other : int_lt e d ≡ true → ⊥
    alike_other less =
        let below = still_below before (record { count = count; delay = Some d }) e stair (not_past e d less) in
        let same = alike e below in
        let yes = itself_past e in
        let unmet = not_past e d less in
        absurd cc

same_stairs : (before : Option Bar) (bars others : List Bar) → are_stairs_after before bars ≡ true → are_stairs_after before others ≡ true → ask bars ≡ true → ask others ≡ true
    → Agree before bars others → bars ≡ others
same_stairs before [] [] stairs stairs' some some' agree = refl
same_stairs before [] (other ∷ others) stairs stairs' some some' agree =
    absurd (no_more before other others (and_parts _ _ stairs').0 (le_is 1 other.count (and_parts _ _ some').0) agree)
same_stairs before (bar ∷ bars) [] stairs stairs' some some' agree =
    absurd (no_more before bar bars (and_parts _ _ stairs).0 (le_is 1 bar.count (and_parts _ _ some).0) (agree_back before (bar ∷ bars) [] agree))
same_stairs before (bar ∷ bars) (other ∷ others) stairs stairs' some some' agree =
    let mine = and_parts (is_stair before bar) (are_stairs_after (Some bar) bars) stairs in
    let theirs = and_parts (is_stair before other) (are_stairs_after (Some other) others) stairs' in
    let positive = and_parts (nat_le 1 bar.count) (ask bars) some in
    let positive' = and_parts (nat_le 1 other.count) (ask others) some' in
    let counts = same_count (not_fewer before bar bars other others mine.0 theirs.1 (le_is 1 bar.count positive.0) agree)
    (not_fewer before other others bar bars theirs.0 mine.1 (le_is 1 other.count positive'.0) (agree_back before (bar ∷ bars) (other ∷ others) agree)) in
    with_count counts mine theirs positive.0
    (λ same. same_stairs (Some bar) bars others mine.1 (subst (λ (b : Bar). are_stairs_after (Some b) others ≡ true) (sym same) theirs.1) positive.1 positive'.1 (rest_agrees same mine.0))
  where
    same_count : (bar.count < other.count → ⊥) → (other.count < bar.count → ⊥) → bar.count ≡ other.count
    same_count never never' =
        elim (cases_lt bar.count other.count) [
          | inl less ↦ absurd (never less)
          | inr at_least ↦ elim (cases_lt other.count bar.count) [ inl more ↦ absurd (never' more) | inr at_most ↦ omega arith ]
        ]

    rest_agrees : bar ≡ other → is_stair before bar ≡ true → Agree (Some bar) bars others
    rest_agrees same stair unseen past one unmet =
        sym (met_rest bar bars unseen past unmet)
        ∙ agree unseen past one (still_below before bar past stair unmet)
        ∙ met_rest other others unseen past (ap (λ (b : Bar). is_past b.delay past) (sym same) ∙ unmet)

    with_count : bar.count ≡ other.count → (is_stair before bar ≡ true) × (are_stairs_after (Some bar) bars ≡ true) → (is_stair before other ≡ true) × (are_stairs_after (Some other) others ≡ true)
        → nat_le 1 bar.count ≡ true → (bar ≡ other → bars ≡ others) → bar ∷ bars ≡ other ∷ others
    with_count counts mine theirs positive later =
        let alike : (past : ℤ) → IsBelow before past → is_past bar.delay past ≡ is_past other.delay past =
        λ past below.
        sym (met_here bar bars past mine.1)
        ∙ agree bar.count past (le_is 1 bar.count positive) below
        ∙ ap (λ n. met (other ∷ others) n past) counts
        ∙ met_here other others past theirs.1
        in
        let stair : is_stair before (record { count = bar.count; delay = other.delay }) ≡ true = subst (λ (n : ℕ). is_stair before (record { count = n; delay = other.delay }) ≡ true) (sym counts) theirs.0 in
        let delays = same_delay before bar.count bar.delay other.delay mine.0 stair alike in
        let same : bar ≡ other = ap₂ (λ (n : ℕ) (d : Option ℤ). record { count = n; delay = d }) counts delays in
        ap₂ (λ (b : Bar) (rest : List Bar). b ∷ rest) same (later same)

asking : (least most : ℤ) (bars : List Bar) → list_all (is_bar_within least most) bars ≡ true → ask bars ≡ true
asking least most [] within = refl
asking least most (bar ∷ bars) within =
    let parts = and_parts (is_bar_within least most bar) (list_all (is_bar_within least most) bars) within in
    let counted = and_parts (is_count bar.count) (is_delay_within least most bar.delay) parts.0 in
    let low = and_parts (nat_le 1 bar.count) (nat_le bar.count 4294967295) counted.0 in
    ap (λ t. t && ask bars) low.0 ∙ asking least most bars parts.1

pub one_staircase : (bars others : List Bar) (least most : ℤ) → are_bars_allowed least most bars ≡ true → are_bars_allowed least most others ≡ true
    → ((unseen : ℕ) (past : ℤ) → 1 ≤ unseen → met bars unseen past ≡ met others unseen past) → bars ≡ others
one_staircase bars others least most allowed allowed' agree =
    let mine = and_parts (list_all (is_bar_within least most) bars) (are_stairs_after None bars) allowed in
    let theirs = and_parts (list_all (is_bar_within least most) others) (are_stairs_after None others) allowed' in
    same_stairs None bars others mine.1 theirs.1 (asking least most bars mine.0) (asking least most others theirs.0) (λ unseen past some below. agree unseen past some)
