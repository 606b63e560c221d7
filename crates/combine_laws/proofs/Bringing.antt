-- What outputs bring to the Group, in whatever order they come.
use Rattle.std.proofs.Common.{◌≡◌, ℕ, Bool, true, cond, ◌||◌, List, [], ◌∷◌, length, map, refl, sym, ap, ◌∙◌, arith}
use Rattle.std.specs.Prelude.{not}
use Rattle.std.specs.List.{AllByRecursion, count_by, filter, flat_map, list_any}
use Rattle.std.proofs.lemmas.List.Sums.{sum_by-cons}
use Rattle.beam_values.specs.Bags.{IsSameBag}
use Rattle.beam_values.specs.Grouping.{part_of}
use Rattle.beam_values.specs.Intervals.{Interval}
use Rattle.beam_values.specs.declared.arrival.Arrival.{Arrival}
use Rattle.beam_values.specs.declared.value.Value.{Value}
use Rattle.beam_values.proofs.Bags.{bag_filter, bag_flat_map, bag_from_same, bag_map, bag_trans}
use Rattle.beam_model.specs.Chains.{Output, Arrives, PoisonAt}
use Rattle.beam_model.specs.Flow.{elements_at, is_at}
use Rattle.combine_lift.specs.Tables.{Added, is_added_to, parts_of}
use Rattle.combine_laws.specs.Brought.{added_by, added_of, arrivals_in, is_arrival, is_untaken, is_brought}
use Rattle.combine_laws.proofs.Lists.{map-map}

-- ---- arrivals among outputs

abbrev arrival_of : Output → List Arrival
arrival_of (Arrives arrival) = arrival ∷ []
arrival_of (PoisonAt node) = []

arrivals_mapped : (outputs : List Output) → arrivals_in outputs ≡ flat_map arrival_of outputs
arrivals_mapped [] = refl
arrivals_mapped (Arrives arrival ∷ outputs) = ap (λ l. arrival ∷ l) (arrivals_mapped outputs)
arrivals_mapped (PoisonAt node ∷ outputs) = arrivals_mapped outputs

arrivals_of_all : (arrivals : List Arrival) → arrivals_in (map Arrives arrivals) ≡ arrivals
arrivals_of_all [] = refl
arrivals_of_all (arrival ∷ arrivals) = ap (λ l. arrival ∷ l) (arrivals_of_all arrivals)

-- all arrivals that were brought are at the Group
pub elements_brought : (group : ℕ) (outputs : List Output) → AllByRecursion (λ output. is_brought group output ≡ true) outputs
    → elements_at group (arrivals_in outputs) ≡ map (λ arrival. arrival.element) (arrivals_in outputs)
elements_brought group [] all = refl
elements_brought group (PoisonAt node ∷ outputs) all = elements_brought group outputs all.1
elements_brought group (Arrives arrival ∷ outputs) all =
    ap (λ b. map (λ (a : Arrival). a.element) (cond b (arrival ∷ filter (is_at group) (arrivals_in outputs)) (filter (is_at group) (arrivals_in outputs)))) all.0
    ∙ ap (λ l. arrival.element ∷ l) (elements_brought group outputs all.1)

module _ (group : ℕ) (arrivals : List Arrival) (outputs : List Output) (same : IsSameBag (map Arrives arrivals) outputs) (all : AllByRecursion (λ output. is_brought group output ≡ true) outputs) where
  -- what arrivals add is what these outputs bring to the Group
  pub added_alike : IsSameBag (added_by arrivals) (map added_of (elements_at group (arrivals_in outputs)))
  added_alike =
      bag_trans (added_by arrivals) (added_by (arrivals_in outputs)) (map added_of (elements_at group (arrivals_in outputs)))
      (bag_map (λ (a : Arrival). added_of a.element) arrivals (arrivals_in outputs)
      (bag_trans arrivals (flat_map arrival_of (map Arrives arrivals)) (arrivals_in outputs)
      (bag_from_same arrivals (flat_map arrival_of (map Arrives arrivals)) (sym (arrivals_of_all arrivals) ∙ arrivals_mapped (map Arrives arrivals)))
      (bag_trans (flat_map arrival_of (map Arrives arrivals)) (flat_map arrival_of outputs) (arrivals_in outputs)
      (bag_flat_map arrival_of (map Arrives arrivals) outputs same)
      (bag_from_same (flat_map arrival_of outputs) (arrivals_in outputs) (sym (arrivals_mapped outputs))))))
      (bag_from_same (added_by (arrivals_in outputs)) (map added_of (elements_at group (arrivals_in outputs)))
      (sym (map-map added_of (λ (a : Arrival). a.element) (arrivals_in outputs)) ∙ ap (map added_of) (sym (elements_brought group outputs all))))

  pub parts_alike : (key : Value) (span : Interval) → IsSameBag (parts_of key span (added_by arrivals)) (parts_of key span (map added_of (elements_at group (arrivals_in outputs))))
  parts_alike key span =
      let brought : List Added = map added_of (elements_at group (arrivals_in outputs)) in
      bag_map (λ (a : Added). a.part) (filter (is_added_to key span) (added_by arrivals)) (filter (is_added_to key span) brought)
      (bag_filter (is_added_to key span) (added_by arrivals) brought added_alike)

-- ---- tests of outputs

-- a part that isn't taken is one that was brought
pub untaken_brought : (takes : Value → Bool) (outputs : List Output)
    → list_any (is_untaken takes) outputs ≡ list_any (λ added. not (takes added.part)) (map added_of (map (λ arrival. arrival.element) (arrivals_in outputs)))
untaken_brought takes [] = refl
untaken_brought takes (PoisonAt node ∷ outputs) = untaken_brought takes outputs
untaken_brought takes (Arrives arrival ∷ outputs) = ap (λ b. not (takes (part_of arrival.element)) || b) (untaken_brought takes outputs)

-- arrivals are counted
pub count_brought : (outputs : List Output) → count_by is_arrival outputs ≡ length (map added_of (map (λ arrival. arrival.element) (arrivals_in outputs)))
count_brought [] = refl
count_brought (PoisonAt node ∷ outputs) = sum_by-cons (λ output. cond {A = ℕ} (is_arrival output) 1 0) (PoisonAt node) outputs ∙ omega (arith, count_brought outputs)
count_brought (Arrives arrival ∷ outputs) =
    sum_by-cons (λ output. cond {A = ℕ} (is_arrival output) 1 0) (Arrives arrival) outputs ∙ omega (arith, count_brought outputs)
