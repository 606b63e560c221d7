-- What accumulators stand for is taken, part by part.
use Rattle.std.proofs.Common.{◌≡◌, ◌&&◌, Bool, true, false, List, [], ◌∷◌, refl, arith}
use Rattle.std.specs.Prelude.{ℤ, is_some, Option, Some, None}
use Rattle.std.specs.List.{list_all}
use Rattle.std.proofs.lemmas.List.Sums.{sum_by-cons}
use Rattle.beam_values.specs.declared.value.Value.{Value}
use Rattle.beam_model.specs.Values.{as_int}
use Rattle.combine_lift.specs.Parts.{is_number, no_weight, others_in, weight}

both_true : (a b : Bool) → a ≡ true → b ≡ true → (a && b) ≡ true
both_true true b here later = later
both_true false b here later = absurd cc

weightless : (of : Option ℤ) → weight 1 no_weight of ≡ 0 → is_some of ≡ true
weightless None is = absurd (omega (arith, is))
weightless (Some n) is = refl

-- where no part is anything else, all are numbers
pub numbers_taken : (parts : List Value) → others_in parts ≡ 0 → list_all is_number parts ≡ true
numbers_taken [] none = refl
numbers_taken (part ∷ parts) none =
    let sum = sum_by-cons (λ (p : Value). weight 1 no_weight (as_int p)) part parts in
    both_true (is_number part) (list_all is_number parts) (weightless (as_int part) (omega (arith, sum, none))) (numbers_taken parts (omega (arith, sum, none)))

pub all_taken : (parts : List Value) → list_all (λ part. true) parts ≡ true
all_taken [] = refl
all_taken (part ∷ parts) = all_taken parts
