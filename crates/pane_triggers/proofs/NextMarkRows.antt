-- Next marks with bars, computed. A window ends at 60000.
use Rattle.std.proofs.Common.{◌≡◌, ℕ, ℤ, pos, negsuc, true, false, List, [], ◌∷◌, Option, Some, None, refl}
use Rattle.beam_values.specs.Times.{least_time}
use Rattle.beam_values.specs.declared.plan.Bar.{Bar}
use Rattle.beam_values.specs.declared.plan.Mode.TheVariants.{Discarding}
use Rattle.beam_values.specs.declared.plan.Trigger.{Trigger}
use Rattle.pane_triggers.specs.NextMarks.{next_mark}

abbrev bar : ℕ → Option ℤ → Bar
bar count delay = record { count = count; delay = delay }

-- with a lateness of 100
abbrev trigger : Option ℕ → List Bar → List Bar → Trigger
trigger early early_bars late_bars = record { early = early; late = 1; lateness = pos 100; mode = Discarding; early_bars = early_bars; late_bars = late_bars }

-- 5 before the end with one unseen, and at once with nine
abbrev early_stairs : Trigger
early_stairs = trigger None (bar 1 (Some (negsuc 4)) ∷ bar 9 None ∷ []) []

no_early_pane_of_nothing : next_mark early_stairs (pos 60000) false 0 ≡ Some (pos 60000)
no_early_pane_of_nothing = refl

from_the_first_bar_on : next_mark early_stairs (pos 60000) false 1 ≡ Some (pos 59995)
from_the_first_bar_on = refl

at_once_by_the_second_bar : next_mark early_stairs (pos 60000) false 9 ≡ Some least_time
at_once_by_the_second_bar = refl

-- the lesser of two bars that are both met, also where they are no staircase
by_the_earlier_of_two_bars : next_mark (trigger None (bar 1 (Some (negsuc 4)) ∷ bar 1 (Some (negsuc 9)) ∷ []) []) (pos 60000) false 1 ≡ Some (pos 59990)
by_the_earlier_of_two_bars = refl

no_mark_below_the_least_time : next_mark early_stairs least_time false 1 ≡ Some least_time
no_mark_below_the_least_time = refl

-- four unseen at once, and two from 7 before the end on
abbrev counted : Trigger
counted = trigger (Some 4) (bar 2 (Some (negsuc 6)) ∷ []) []

too_few_for_both : next_mark counted (pos 60000) false 1 ≡ Some (pos 60000)
too_few_for_both = refl

too_few_for_the_count : next_mark counted (pos 60000) false 3 ≡ Some (pos 59993)
too_few_for_the_count = refl

enough_by_the_count : next_mark counted (pos 60000) false 4 ≡ Some least_time
enough_by_the_count = refl

-- with three unseen, in place of the late count
abbrev late_stair : Option ℤ → Trigger
late_stair delay = trigger None [] (bar 3 delay ∷ [])

the_expiry_without_a_bar : next_mark (late_stair (Some (pos 5))) (pos 60000) true 1 ≡ Some (pos 60100)
the_expiry_without_a_bar = refl

from_the_late_bar_on : next_mark (late_stair (Some (pos 5))) (pos 60000) true 3 ≡ Some (pos 60005)
from_the_late_bar_on = refl

never_with_nothing_unseen : next_mark (late_stair (Some (pos 5))) (pos 60000) true 0 ≡ None
never_with_nothing_unseen = refl

the_expiry_before_the_bar : next_mark (late_stair (Some (pos 500))) (pos 60000) true 3 ≡ Some (pos 60100)
the_expiry_before_the_bar = refl

at_once_by_a_late_bar : next_mark (late_stair None) (pos 60000) true 3 ≡ Some least_time
at_once_by_a_late_bar = refl

no_mark_is_so_high : next_mark (late_stair None) (pos 9223372036854775807) true 1 ≡ None
no_mark_is_so_high = refl
