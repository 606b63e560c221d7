-- The bars of a trigger that is allowed: each within its limits, and each above all before it.
use Rattle.std.proofs.Common.{◌≡◌, ℕ, nat_le, nat_lt, Bool, true, List, [], ◌∷◌, Option, Some, None, arith}
use Rattle.std.specs.Prelude.{ℤ, ◌≤ℤ◌, ◌<ℤ◌, int_le, int_lt, IfSome}
use Rattle.std.specs.List.{All, AllPairs, list_all}
use Rattle.std.proofs.lemmas.Bool.{and_parts, both_ways, leb-true, ltb-true, true_from_ne_false}
use Rattle.std.proofs.lemmas.Int.{ints}
use Rattle.std.proofs.lemmas.List.Elements.{All-nil, All-cons}
use Rattle.std.proofs.lemmas.List.Folds.{list_all_at}
use Rattle.std.proofs.lemmas.List.Kept.{AllPairs-cons}
use Rattle.beam_values.specs.Checked.{are_bars_allowed, are_stairs_after, is_bar_within, is_count, is_delay_within, is_less_delay, is_stair}
use Rattle.beam_values.specs.declared.plan.Bar.{Bar}
use Rattle.pipeline_graph.specs.Rules.{AreBars, IsCount, IsLessDelay, IsStair}

pub int_le_true : (a b : ℤ) → int_le a b ≡ true → a ≤ℤ b
int_le_true a b test = grind (arith, ints)

int_lt_true : (a b : ℤ) → int_lt a b ≡ true → a <ℤ b
int_lt_true a b test = grind (arith, ints)

pub counted : (n : ℕ) → is_count n ≡ true → IsCount n
counted n test = let parts = and_parts (nat_le 1 n) (nat_le n 4294967295) test in (leb-true _ _ parts.0, leb-true _ _ parts.1)

delay_within : (least most : ℤ) (delay : Option ℤ) → is_delay_within least most delay ≡ true → IfSome delay (λ ms. (least ≤ℤ ms) × (ms ≤ℤ most))
delay_within least most None test = tt
delay_within least most (Some ms) test = let parts = and_parts (int_le least ms) (int_le ms most) test in (int_le_true _ _ parts.0, int_le_true _ _ parts.1)

pub All-from_list_all : {X : Type 0} (p : X → Bool) (xs : List X) → list_all p xs ≡ true → All (λ x. p x ≡ true) xs
All-from_list_all p xs all k d inside = true_from_ne_false _ (λ fails. both_ways _ (list_all_at p xs k d inside fails) all)

-- ---- stairs

less_delay : (before after : Option ℤ) → is_less_delay before after ≡ true → IsLessDelay before after
less_delay (Some before) (Some after) test = int_lt_true after before test
less_delay (Some before) None test = tt
less_delay None (Some after) test = absurd cc
less_delay None None test = absurd cc

less_delay_through : (a b c : Option ℤ) → IsLessDelay a b → IsLessDelay b c → IsLessDelay a c
less_delay_through (Some a) (Some b) (Some c) first second = below a b c first second
  where
    below : (x y z : ℤ) → y <ℤ x → z <ℤ y → z <ℤ x
    below x y z p q = grind (arith, ints)
less_delay_through (Some a) (Some b) None first second = tt
less_delay_through (Some a) None c first second = absurd second
less_delay_through None b c first second = absurd first

stair : (before bar : Bar) → is_stair (Some before) bar ≡ true → IsStair before bar
stair before bar test =
    let parts = and_parts (nat_lt before.count bar.count) (is_less_delay before.delay bar.delay) test in
    record { count = ltb-true _ _ parts.0; delay = less_delay before.delay bar.delay parts.1 }

stair_through : (a b c : Bar) → IsStair a b → IsStair b c → IsStair a c
stair_through a b c first second = record { count = omega arith; delay = less_delay_through a.delay b.delay c.delay first.delay second.delay }

all_above : (a b : Bar) (bars : List Bar) → IsStair a b → All (IsStair b) bars → All (IsStair a) bars
all_above a b bars first later k d inside = stair_through a b _ first (later k d inside)

-- each of these bars, and each pair of them
above : (before : Bar) (bars : List Bar) → are_stairs_after (Some before) bars ≡ true → All (IsStair before) bars × AllPairs IsStair bars
above before [] test = (All-nil (IsStair before), λ i j d low inside. absurd (omega arith))
above before (bar ∷ bars) test =
    let parts = and_parts (is_stair (Some before) bar) (are_stairs_after (Some bar) bars) test in
    let first = stair before bar parts.0 in
    let later = above bar bars parts.1 in
    (All-cons (IsStair before) bar bars first (all_above before bar bars first later.0), AllPairs-cons IsStair bar bars later.0 later.1)

stairs : (bars : List Bar) → are_stairs_after None bars ≡ true → AllPairs IsStair bars
stairs [] test = λ i j d low inside. absurd (omega arith)
stairs (bar ∷ bars) test = let later = above bar bars test in AllPairs-cons IsStair bar bars later.0 later.1

-- ---- bars

pub bars_set : (least most : ℤ) (bars : List Bar) → are_bars_allowed least most bars ≡ true → AreBars least most bars
bars_set least most bars test =
    let parts = and_parts (list_all (is_bar_within least most) bars) (are_stairs_after None bars) test in
    let each : All (λ bar. is_bar_within least most bar ≡ true) bars = All-from_list_all (is_bar_within least most) bars parts.0 in
    record {
      counts = λ k d inside. counted _ (and_parts _ _ (each k d inside)).0;
      delays = λ k d inside. delay_within least most _ (and_parts _ _ (each k d inside)).1;
      stairs = stairs bars parts.1;
    }
