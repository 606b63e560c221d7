-- The least holds of a queue, as a list and as runs.
use Rattle.std.proofs.Common.{◌≡◌, ℕ, zero, suc, ◌+◌, ◌-◌, ◌<◌, ◌≤◌, ℤ, ◌≤ℤ◌, List, [], ◌∷◌, ◌++◌, length, map, drop, replicate, get_or, Some, refl, sym, ap, subst, ◌∙◌, arith, append_assoc}
use Rattle.std.specs.Prelude.{slice_get, fold}
use Rattle.std.specs.Int.{int_min}
use Rattle.std.specs.List.{All}
use Rattle.std.proofs.lemmas.Int.{ints, clamps}
use Rattle.std.proofs.lemmas.List.{append-nil, drop_more, get_or-replicate, length-append, length-replicate, map-append, replicate-append-replicate}
use Rattle.std.proofs.lemmas.List.Concat.{flat_map-append}
use Rattle.std.proofs.lemmas.List.Elements.{All-cons, All-head, All-nil, All-tail}
use Rattle.std.proofs.lemmas.Option.{slice_get-get_or}
use Rattle.stateful_core.specs.Minima.{AreJoined, AreRising, IsBelow, lowered, lows_of, spread, with_low}
use Rattle.stateful_core.specs.declared.minima.Run.{Run}
use Rattle.stateful_core.proofs.ByIndex.{got_behind, got_front}

-- ---- the least of the holds behind some

lowered_all : (mark : ℤ) (holds : List ℤ) → fold int_min mark holds ≡ lowered mark (slice_get (lows_of holds) 0)
lowered_all mark [] = refl
lowered_all mark (x ∷ xs) = lowered_all (int_min mark x) xs ∙ by (lows_of xs)
  where
    by : (lows : List ℤ) → lowered (int_min mark x) (slice_get lows 0) ≡ lowered mark (slice_get (with_low x lows) 0)
    by [] = refl
    by (low ∷ lows) = omega (arith, ints, clamps)

pub lowered_behind : (mark : ℤ) (holds : List ℤ) (from : ℕ) → fold int_min mark (drop from holds) ≡ lowered mark (slice_get (lows_of holds) from)
lowered_behind mark holds zero = lowered_all mark holds
lowered_behind mark [] (suc from) = refl
lowered_behind mark (x ∷ xs) (suc from) = lowered_behind mark xs from ∙ ap (lowered mark) (by (lows_of xs))
  where
    by : (lows : List ℤ) → slice_get lows from ≡ slice_get (with_low x lows) (suc from)
    by [] = refl
    by (low ∷ lows) = refl

pub lows_push : (holds : List ℤ) (hold : ℤ) → lows_of (holds ++ hold ∷ []) ≡ map (int_min hold) (lows_of holds) ++ hold ∷ []
lows_push [] hold = refl
lows_push (x ∷ xs) hold = ap (with_low x) (lows_push xs hold) ∙ by (lows_of xs)
  where
    by : (lows : List ℤ) → with_low x (map (int_min hold) lows ++ hold ∷ []) ≡ map (int_min hold) (with_low x lows) ++ hold ∷ []
    by [] =
        let e : int_min x hold ≡ int_min hold x = omega (arith, ints, clamps) in
        ap (λ m. m ∷ (hold ∷ [])) e
    by (low ∷ lows) =
        let e : int_min x (int_min hold low) ≡ int_min hold (int_min x low) = omega (arith, ints, clamps) in
        ap (λ m. m ∷ (int_min hold low ∷ (map (int_min hold) lows ++ hold ∷ []))) e

pub lows_rest : (holds : List ℤ) → drop 1 (lows_of holds) ≡ lows_of (drop 1 holds)
lows_rest [] = refl
lows_rest (x ∷ xs) = by (lows_of xs)
  where
    by : (lows : List ℤ) → drop 1 (with_low x lows) ≡ lows
    by [] = refl
    by (low ∷ lows) = refl

pub lows_sized : (holds : List ℤ) → length (lows_of holds) ≡ length holds
lows_sized [] = refl
lows_sized (x ∷ xs) = by (lows_of xs) (lows_sized xs)
  where
    by : (lows : List ℤ) → length lows ≡ length xs → length (with_low x lows) ≡ suc (length xs)
    by [] e = ap suc e
    by (low ∷ lows) e = ap suc e

-- ---- runs

pub spread_push : (runs : List Run) (run : Run) → spread (runs ++ run ∷ []) ≡ spread runs ++ replicate run.count run.least
spread_push runs run =
    flat_map-append (λ (r : Run). replicate r.count r.least) runs (run ∷ []) ∙ ap (λ l. spread runs ++ l) (append-nil (replicate run.count run.least))

-- a step through the runs, to one that is behind the first ones
pub run_here : (runs : List Run) (k left : ℕ) (run : Run) → k < length runs → run ≡ get_or runs k run → left < run.count → slice_get (spread (drop k runs)) left ≡ Some run.least
run_here runs k left run less read inside =
    ap (λ l. slice_get (spread l) left) (drop_more runs k run less ∙ ap (λ (r : Run). r ∷ drop (k + 1) runs) (sym read))
    ∙ got_front (replicate run.count run.least) (spread (drop (k + 1) runs)) left (omega (arith, inside, length-replicate run.count run.least))
    ∙ slice_get-get_or (replicate run.count run.least) left run.least (omega (arith, inside, length-replicate run.count run.least))
    ∙ ap (λ x. Some x) (get_or-replicate run.count left run.least run.least inside)

pub run_past : (runs : List Run) (k left : ℕ) (run : Run) → k < length runs → run ≡ get_or runs k run → run.count ≤ left
    → slice_get (spread (drop k runs)) left ≡ slice_get (spread (drop (k + 1) runs)) (left - run.count)
run_past runs k left run less read past =
    ap (λ l. slice_get (spread l) left) (drop_more runs k run less ∙ ap (λ (r : Run). r ∷ drop (k + 1) runs) (sym read))
    ∙ got_behind (replicate run.count run.least) (spread (drop (k + 1) runs)) (left - run.count) left (omega (arith, past, length-replicate run.count run.least))

-- ---- runs in order

pub rising_front : (runs : List Run) (run : Run) → AreRising (runs ++ run ∷ []) → AreRising runs
rising_front [] run h = tt
rising_front (r ∷ runs) run h = (h.0, front runs h.1, rising_front runs run h.2)
  where
    front : (rs : List Run) → All (λ (later : Run). r.least ≤ℤ later.least) (rs ++ run ∷ []) → All (λ (later : Run). r.least ≤ℤ later.least) rs
    front [] a = All-nil (λ (later : Run). r.least ≤ℤ later.least)
    front (s ∷ rs) a =
        All-cons (λ (later : Run). r.least ≤ℤ later.least) s rs (All-head (λ (later : Run). r.least ≤ℤ later.least) s (rs ++ run ∷ []) a)
        (front rs (All-tail (λ (later : Run). r.least ≤ℤ later.least) s (rs ++ run ∷ []) a))

abbrev AllBelow : ℤ → List Run → Type 0
AllBelow hold runs = All (λ run. run.least ≤ℤ hold) runs

rising_push : (runs : List Run) (run : Run) → 0 < run.count → AllBelow run.least runs → AreRising runs → AreRising (runs ++ run ∷ [])
rising_push [] run some below h = (some, All-nil (λ (later : Run). run.least ≤ℤ later.least), tt)
rising_push (r ∷ runs) run some below h = (
  h.0,
  more runs h.1,
  rising_push runs run some (All-tail (λ (x : Run). x.least ≤ℤ run.least) r runs below) h.2,
)
  where
    own : r.least ≤ℤ run.least
    own = All-head (λ (x : Run). x.least ≤ℤ run.least) r runs below

    more : (rs : List Run) → All (λ (later : Run). r.least ≤ℤ later.least) rs → All (λ (later : Run). r.least ≤ℤ later.least) (rs ++ run ∷ [])
    more [] a = All-cons (λ (later : Run). r.least ≤ℤ later.least) run [] own (All-nil (λ (later : Run). r.least ≤ℤ later.least))
    more (s ∷ rs) a =
        All-cons (λ (later : Run). r.least ≤ℤ later.least) s (rs ++ run ∷ []) (All-head (λ (later : Run). r.least ≤ℤ later.least) s rs a)
        (more rs (All-tail (λ (later : Run). r.least ≤ℤ later.least) s rs a))

all_below : (hold : ℤ) (runs : List Run) → AreRising runs → IsBelow hold runs → AllBelow hold runs
all_below hold [] h below = All-nil (λ (run : Run). run.least ≤ℤ hold)
all_below hold (r ∷ []) h below = All-cons (λ (run : Run). run.least ≤ℤ hold) r [] (below.last [] r refl) (All-nil (λ (run : Run). run.least ≤ℤ hold))
all_below hold (r ∷ (s ∷ runs)) h below =
    let later = all_below hold (s ∷ runs) h.2 (record { last = λ front run e. below.last (r ∷ front) run (ap (λ l. r ∷ l) e) }) in
    let low : r.least ≤ℤ s.least = All-head (λ (x : Run). r.least ≤ℤ x.least) s runs h.1 in
    let next : s.least ≤ℤ hold = All-head (λ (run : Run). run.least ≤ℤ hold) s runs later in
    All-cons (λ (run : Run). run.least ≤ℤ hold) r (s ∷ runs) (omega (arith, ints, low, next)) later

map_replicate : (f : ℤ → ℤ) (n : ℕ) (x y : ℤ) → f x ≡ y → map f (replicate n x) ≡ replicate n y
map_replicate f zero x y e = refl
map_replicate f (suc n) x y e = λ i. e i ∷ map_replicate f n x y e i

below_same : (hold : ℤ) (runs : List Run) → AllBelow hold runs → map (int_min hold) (spread runs) ≡ spread runs
below_same hold [] h = refl
below_same hold (r ∷ runs) h =
    let low : r.least ≤ℤ hold = All-head (λ (run : Run). run.least ≤ℤ hold) r runs h in
    let same : int_min hold r.least ≡ r.least = omega (arith, ints, clamps, low) in
    map-append (int_min hold) (replicate r.count r.least) (spread runs)
    ∙ ap (λ l. l ++ map (int_min hold) (spread runs)) (map_replicate (int_min hold) r.count r.least r.least same)
    ∙ ap (λ l. replicate r.count r.least ++ l) (below_same hold runs (All-tail (λ (run : Run). run.least ≤ℤ hold) r runs h))

-- ---- the last runs leave

pub record AreJoining (hold : ℤ) (old new : List Run) (count : ℕ) : Type 0 where
  pub lows : map (int_min hold) (spread old) ++ hold ∷ [] ≡ map (int_min hold) (spread new) ++ replicate count hold
  pub rising : AreRising new
  pub sized : length (spread new) + count ≡ length (spread old) + 1
  pub some : 0 < count

pub joining_none : (hold : ℤ) (runs : List Run) → AreRising runs → AreJoining hold runs runs 1
joining_none hold runs h = record { lows = refl; rising = h; sized = refl; some = omega arith }

pub left_sized : (hold : ℤ) (old runs after : List Run) (run : Run) (count : ℕ) → runs ≡ after ++ run ∷ [] → AreJoining hold old runs count → length (spread after) + (run.count + count) ≡ length (spread old) + 1
left_sized hold old runs after run count is h =
    omega (
      arith,
      h.sized,
      ap (λ (l : List Run). length (spread l)) is,
      ap length (spread_push after run),
      length-append (spread after) (replicate run.count run.least),
      length-replicate run.count run.least,
    )

pub joining_more : (hold : ℤ) (old runs after : List Run) (run : Run) (count : ℕ) → runs ≡ after ++ run ∷ [] → hold ≤ℤ run.least → AreJoining hold old runs count
    → AreJoining hold old after (count + run.count)
joining_more hold old runs after run count is high h = record {
  lows = h.lows ∙ ap (λ (l : List Run). map (int_min hold) (spread l) ++ replicate count hold) is ∙ ap (λ l. map (int_min hold) l ++ replicate count hold) (spread_push after run)
      ∙ ap (λ l. l ++ replicate count hold) (map-append (int_min hold) (spread after) (replicate run.count run.least) ∙ ap (λ l. map (int_min hold) (spread after) ++ l) (map_replicate (int_min hold) run.count run.least hold same))
      ∙ append_assoc (map (int_min hold) (spread after)) (replicate run.count hold) (replicate count hold)
      ∙ ap (λ l. map (int_min hold) (spread after) ++ l) (replicate-append-replicate run.count count hold ∙ ap (λ n. replicate n hold) swapped);
  rising = rising_front after run (subst AreRising is h.rising);
  sized = let s = left_sized hold old runs after run count is h in omega (arith, s);
  some = omega (arith, h.some);
}
  where
    same : int_min hold run.least ≡ hold
    same = omega (arith, ints, clamps, high)

    swapped : run.count + count ≡ count + run.count
    swapped = omega arith

pub joined_all : (hold : ℤ) (old runs after : List Run) (count : ℕ) → after ≡ runs → IsBelow hold runs → AreJoining hold old runs count → AreJoined hold old after count
joined_all hold old runs after count is below h = subst (λ (l : List Run). AreJoined hold old l count) (sym is) (record {
  lows = ap (λ l. l ++ replicate count hold) (sym (below_same hold runs all)) ∙ sym h.lows;
  rising = rising_push runs (record { count = count; least = hold }) h.some all h.rising;
})
  where
    all : AllBelow hold runs
    all = all_below hold runs h.rising below
