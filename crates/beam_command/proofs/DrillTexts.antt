-- Two texts of one drill are the same: what plain grouping brings to the Write is one bag, and a summary looks at no order.
use Rattle.std.proofs.Common.{◌≡◌, ℕ, ◌+◌, ℤ, pos, negsuc, ◌+ℤ◌, ◌-ℤ◌, List, [], ◌∷◌, ◌++◌, length, map, sum_by, fold, codes, decimal, refl, sym, ◌∙◌, arith}
use Rattle.std.specs.Fmt.{signed_decimal}
use Rattle.std.proofs.lemmas.Int.{ints}
use Rattle.std.proofs.lemmas.List.Sums.{sum_by-cons}
use Rattle.beam_values.specs.Bags.{IsSameBag}
use Rattle.beam_values.specs.declared.element.Element.{Element}
use Rattle.beam_values.specs.declared.plan.Plan.{Plan}
use Rattle.beam_values.proofs.Bags.{bag_flat_map, bag_map}
use Rattle.beam_model.specs.Functions.{sum_of}
use Rattle.beam_model.specs.Plain.{IsPlainAt}
use Rattle.beam_model.specs.Positions.{SourceItem, items}
use Rattle.beam_model.specs.Rendering.{items_written, number_or_zero, summary_line}
use Rattle.beam_command.specs.DrillPlans.{drill_plan}
use Rattle.beam_command.specs.Drilling.{IsDrillText, drill_summary, drilled_items}

-- ---- a bag has one length and one sum

ones : {X : Type 0} (xs : List X) → sum_by (λ x. 1) xs ≡ length xs
ones [] = refl
ones (x ∷ xs) = omega (arith, ones xs, sum_by-cons (λ (y : _). 1) x xs)

bag_length : {X : Type 0} (xs ys : List X) → IsSameBag xs ys → length xs ≡ length ys
bag_length xs ys same = sym (ones xs) ∙ same.weighs (λ x. 1) ∙ ones ys

-- how far a number lies above zero, and how far below
abbrev above : ℤ → ℕ
above (pos n) = n
above (negsuc n) = 0

abbrev below : ℤ → ℕ
below (pos n) = 0
below (negsuc n) = n + 1

parts_of : (z : ℤ) → z ≡ pos (above z) -ℤ pos (below z)
parts_of (pos n) = omega (arith, ints)
parts_of (negsuc n) = omega (arith, ints)

sum_parts : (numbers : List ℤ) (start : ℤ) → fold (λ sum n. sum +ℤ n) start numbers ≡ start +ℤ (pos (sum_by above numbers) -ℤ pos (sum_by below numbers))
sum_parts [] start = omega (arith, ints)
sum_parts (n ∷ numbers) start =
    sum_parts numbers (start +ℤ n)
    ∙ omega (arith, ints, parts_of n, sum_by-cons above n numbers, sum_by-cons below n numbers)

sum_of_bag : (xs ys : List ℤ) → IsSameBag xs ys → sum_of xs ≡ sum_of ys
sum_of_bag xs ys same =
    sum_parts xs (pos 0) ∙ (λ i. pos 0 +ℤ (pos (same.weighs above i) -ℤ pos (same.weighs below i))) ∙ sym (sum_parts ys (pos 0))

-- ---- the texts

abbrev summed : ℕ → ℕ → ℕ → ℤ → List ℕ
summed lines panes values sum =
    summary_line (codes "lines") (decimal lines)
    ++ (summary_line (codes "panes") (decimal panes)
    ++ (summary_line (codes "values") (decimal values)
    ++ summary_line (codes "sum") (signed_decimal sum)))

same_summary : (count : ℕ) (xs ys : List Element) → IsSameBag xs ys → drill_summary count xs ≡ drill_summary count ys
same_summary count xs ys same =
    let values = bag_flat_map items_written xs ys same in
    let panes = bag_length xs ys same in
    let counted = bag_length (drilled_items xs) (drilled_items ys) values in
    let sum = sum_of_bag (map number_or_zero (drilled_items xs)) (map number_or_zero (drilled_items ys)) (bag_map number_or_zero (drilled_items xs) (drilled_items ys) values) in
    λ i. summed count (panes i) (counted i) (sum i)

pub one_text : ((plan : Plan) (items : List SourceItem) (barrier : ℕ) (elements others : List Element) → IsPlainAt plan items barrier elements → IsPlainAt plan items barrier others
    → IsSameBag elements others) → (count number : ℕ) (text other : List ℕ) → IsDrillText count number text → IsDrillText count number other → text ≡ other
one_text law count number text other one two =
    one.is ∙ same_summary count one.elements two.elements (law (drill_plan count number) (items [] (drill_plan count number)) 5 one.elements two.elements one.plain two.plain) ∙ sym two.is
