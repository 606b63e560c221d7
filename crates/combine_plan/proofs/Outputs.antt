-- Outputs in parts: what some output of a part is, some output of the whole is.
use Rattle.std.proofs.Common.{◌≡◌, ℕ, ◌+◌, ◌≤◌, Bool, true, false, not, cond, List, [], ◌∷◌, ◌++◌, length, map, refl, ap, ◌∙◌, arith}
use Rattle.std.specs.Prelude.{Some, ◌||◌}
use Rattle.std.specs.List.{count_by, list_any}
use Rattle.std.proofs.lemmas.List.Folds.{list_any-append}
use Rattle.std.proofs.lemmas.List.Sums.{sum_by-append, sum_by-cons}
use Rattle.beam_values.specs.Grouping.{part_of}
use Rattle.beam_values.specs.declared.arrival.Arrival.{Arrival}
use Rattle.beam_values.specs.declared.value.Value.{Value}
use Rattle.beam_model.specs.Chains.{Output, Arrives, PoisonAt}
use Rattle.beam_model.specs.Spread.{first_poison, is_poison}
use Rattle.combine_laws.specs.Brought.{is_arrival, is_untaken}

either_back : (a b : Bool) → b ≡ true → (a || b) ≡ true
either_back true b is = refl
either_back false b is = is

pub any_front : {X : Type 0} (test : X → Bool) (xs ys : List X) → list_any test xs ≡ true → list_any test (xs ++ ys) ≡ true
any_front test xs ys is = list_any-append test xs ys ∙ ap (λ (b : Bool). b || list_any test ys) is

pub any_back : {X : Type 0} (test : X → Bool) (xs ys : List X) → list_any test ys ≡ true → list_any test (xs ++ ys) ≡ true
any_back test xs ys is = list_any-append test xs ys ∙ either_back (list_any test xs) (list_any test ys) is

pub any_within : {X : Type 0} (test : X → Bool) (before xs after : List X) → list_any test xs ≡ true → list_any test (before ++ (xs ++ after)) ≡ true
any_within test before xs after is = any_back test before (xs ++ after) (any_front test xs after is)

pub count_within : {X : Type 0} (test : X → Bool) (before xs after : List X) → count_by test before + count_by test xs ≤ count_by test (before ++ (xs ++ after))
count_within test before xs after =
    omega (arith, sum_by-append (λ x. cond (test x) 1 0) before (xs ++ after), sum_by-append (λ x. cond (test x) 1 0) xs after)

-- where there is a first poison, some output is poison
pub first_any : (outputs : List Output) (at : ℕ) → first_poison outputs ≡ Some at → list_any is_poison outputs ≡ true
first_any [] at is = absurd (cc)
first_any (Arrives arrival ∷ outputs) at is = first_any outputs at is
first_any (PoisonAt node ∷ outputs) at is = refl

-- all of these are arrivals
pub arrivals_counted : (arrivals : List Arrival) → count_by is_arrival (map Arrives arrivals) ≡ length arrivals
arrivals_counted [] = refl
arrivals_counted (arrival ∷ more) = omega (arith, sum_by-cons (λ output. cond (is_arrival output) 1 0) (Arrives arrival) (map Arrives more), arrivals_counted more)

pub arrivals_untaken : (takes : Value → Bool) (arrivals : List Arrival) → list_any (λ arrival. is_untaken takes (Arrives arrival)) arrivals ≡ list_any (is_untaken takes) (map Arrives arrivals)
arrivals_untaken takes [] = refl
arrivals_untaken takes (arrival ∷ more) = ap (λ (b : Bool). not (takes (part_of arrival.element)) || b) (arrivals_untaken takes more)
