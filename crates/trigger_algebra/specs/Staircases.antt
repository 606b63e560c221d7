-- The staircase of a composite trigger: bars that ask for more and more elements, and for less and less of the mark.
use Rattle.std.specs.Prelude.{ℕ, ◌<◌, ◌^◌, Bool, true, false, if◌then◌else◌, nat_le, nat_lt, int_lt, List, [], ◌∷◌, ◌++◌, fold, Some, None}
use Rattle.std.specs.List.{AllByRecursion}
use Rattle.beam_values.specs.declared.plan.Bar.{Bar}
use Rattle.trigger_algebra.specs.declared.need.Need.{Need}
use Rattle.trigger_algebra.specs.declared.need.Need.TheVariants.{Always, From, Never}
use Rattle.trigger_algebra.specs.declared.when.When.{When}
use Rattle.trigger_algebra.specs.declared.when.When.TheOpen as layer
use Rattle.trigger_algebra.specs.declared.when.When.TheFolds.{fold-When}
use Rattle.trigger_algebra.specs.Refusing.{counts_of}

-- a need is less where it is met earlier: always, from a delay on, never
abbrev pub is_less : Need → Need → Bool
is_less Always Always = false
is_less Always (From delay) = true
is_less Always Never = true
is_less (From delay) Always = false
is_less (From delay) (From other) = int_lt delay other
is_less (From delay) Never = true
is_less Never other = false

abbrev pub least : Need → Need → Need
least need other = if is_less other need then other else need

abbrev pub greatest : Need → Need → Need
greatest need other = if is_less need other then other else need

abbrev pub need_step : ℕ → layer.When-F Need → Need
need_step unseen (layer.Count n) = if nat_le n unseen then Always else Never
need_step unseen (layer.MarkAt delay) = From delay
need_step unseen (layer.First needs) = fold least Never needs
need_step unseen (layer.All needs) = fold greatest Always needs

-- from which mark on a tree holds with so many unseen; as a function of these, it is a step function that falls
abbrev pub need_of : When → ℕ → Need
need_of when unseen = fold-When Need (need_step unseen) when

-- a number put where it belongs among rising ones, unless it is there
abbrev pub insert_count : ℕ → List ℕ → List ℕ
insert_count count [] = count ∷ []
insert_count count (n ∷ ns) =
    if nat_lt count n then count ∷ n ∷ ns
    else (if nat_lt n count then n ∷ insert_count count ns else n ∷ ns)

-- each of these numbers once, rising
abbrev pub rising : List ℕ → List ℕ
rising counts = fold (λ some count. insert_count count some) [] counts

-- numbers of 32 bits
abbrev pub AreWords : List ℕ → Type 0
AreWords counts = AllByRecursion (λ count. count < 2 ^ 32) counts

-- the bar of a need at a count; what is never met has none
abbrev pub bar_at : ℕ → Need → List Bar
bar_at count Always = record { count = count; delay = None } ∷ []
bar_at count (From delay) = record { count = count; delay = Some delay } ∷ []
bar_at count Never = []

-- the steps of a function of counts: a bar wherever its need falls below the last one
abbrev pub stairs_of : (ℕ → Need) → Need → List ℕ → List Bar
stairs_of need last [] = []
stairs_of need last (count ∷ counts) =
    if is_less (need count) last then bar_at count (need count) ++ stairs_of need (need count) counts else stairs_of need last counts

-- The bars of a tree, its normal form: the steps of its need, which falls only at the count of a leaf. Of all of (the first of 2 and -5) and (the first of 9
-- and -1) these are (1, -1) and (9, none).
abbrev pub normal_of : When → List Bar
normal_of when = stairs_of (need_of when) Never (rising (counts_of when))
