-- Normal forms and refusals of some trees, computed.
use Rattle.std.specs.Prelude.{◌≡◌, ℕ, zero, suc, ℤ, pos, negsuc, true, false, List, [], ◌∷◌, replicate, Option, Some, None, refl}
use Rattle.beam_values.specs.declared.plan.Bar.{Bar}
use Rattle.trigger_algebra.specs.declared.refusal.WhenRefusal.TheVariants as refusal
use Rattle.trigger_algebra.specs.declared.when.When.{When}
use Rattle.trigger_algebra.specs.declared.when.When.TheFolds.{fold-roll-When}
use Rattle.trigger_algebra.specs.declared.when.When.TheOpen as layer
use Rattle.trigger_algebra.specs.declared.when.When.TheViews.{roll-When}
use Rattle.trigger_algebra.specs.Holding.{holds}
use Rattle.trigger_algebra.specs.Refusing.{refusal_of}
use Rattle.trigger_algebra.specs.Staircases.{normal_of}

abbrev count : ℕ → When
count n = roll-When (layer.Count n)

abbrev mark_at : ℤ → When
mark_at delay = roll-When (layer.MarkAt delay)

abbrev first_of : List When → When
first_of trees = roll-When (layer.First trees)

abbrev all_of : List When → When
all_of trees = roll-When (layer.All trees)

abbrev bar : ℕ → Option ℤ → Bar
bar n delay = record { count = n; delay = delay }

-- all of (the first of 2 and -5) and (the first of 9 and -1)
abbrev of_two : When
of_two = all_of (first_of (count 2 ∷ mark_at (negsuc 4) ∷ []) ∷ first_of (count 9 ∷ mark_at (negsuc 0) ∷ []) ∷ [])

normal_of_two : normal_of of_two ≡ bar 1 (Some (negsuc 0)) ∷ bar 9 None ∷ []
normal_of_two = simp fold-roll-When refl

one_is_not_enough : holds of_two 1 (negsuc 1) ≡ false
one_is_not_enough = simp fold-roll-When refl

two_is_from_the_later_mark_on : holds of_two 2 (negsuc 0) ≡ true
two_is_from_the_later_mark_on = simp fold-roll-When refl

either_of_a_count_and_a_mark : normal_of (first_of (count 2 ∷ mark_at (negsuc 4) ∷ [])) ≡ bar 1 (Some (negsuc 4)) ∷ bar 2 None ∷ []
either_of_a_count_and_a_mark = simp fold-roll-When refl

a_count_and_a_mark : normal_of (all_of (count 2 ∷ mark_at (negsuc 4) ∷ [])) ≡ bar 2 (Some (negsuc 4)) ∷ []
a_count_and_a_mark = simp fold-roll-When refl

the_least_count : normal_of (first_of (count 3 ∷ count 2 ∷ count 5 ∷ [])) ≡ bar 2 None ∷ []
the_least_count = simp fold-roll-When refl

the_greatest_count : normal_of (all_of (count 3 ∷ count 8 ∷ [])) ≡ bar 8 None ∷ []
the_greatest_count = simp fold-roll-When refl

a_mark_alone : normal_of (mark_at (pos 7)) ≡ bar 1 (Some (pos 7)) ∷ []
a_mark_alone = simp fold-roll-When refl

-- a bar of the same delay and a greater count is left out
equal_delays : normal_of (first_of (all_of (count 2 ∷ mark_at (negsuc 8) ∷ []) ∷ all_of (count 4 ∷ mark_at (negsuc 8) ∷ []) ∷ count 7 ∷ []))
    ≡ bar 2 (Some (negsuc 8)) ∷ bar 7 None ∷ []
equal_delays = simp fold-roll-When refl

-- ---- refusals

levels : ℕ → When
levels zero = count 1
levels (suc n) = all_of (levels n ∷ [])

eight_levels : refusal_of (levels 7) ≡ None
unfolding levels
eight_levels = simp fold-roll-When refl

-- also where a count is 0
nine_levels : refusal_of (first_of (count 0 ∷ levels 7 ∷ [])) ≡ Some refusal.Depth
unfolding levels
nine_levels = simp fold-roll-When refl

thirty_two_leaves : refusal_of (first_of (replicate 32 (count 1))) ≡ None
thirty_two_leaves = simp fold-roll-When refl

thirty_three_leaves : refusal_of (first_of (all_of [] ∷ replicate 33 (count 1))) ≡ Some refusal.Leaves
thirty_three_leaves = simp fold-roll-When refl

an_empty_list_before_a_number : refusal_of (first_of (count 0 ∷ all_of [] ∷ [])) ≡ Some refusal.Empty
an_empty_list_before_a_number = simp fold-roll-When refl

no_count_of_none : refusal_of (count 0) ≡ Some refusal.Number
no_count_of_none = simp fold-roll-When refl

the_greatest_mark : refusal_of (mark_at (pos 31536000000000)) ≡ None
the_greatest_mark = simp fold-roll-When refl

one_beyond : refusal_of (mark_at (negsuc 31536000000000)) ≡ Some refusal.Number
one_beyond = simp fold-roll-When refl
