-- Side inputs computed: what the nodes of a small pipeline put out, and which joined elements the plain side input admits.
use Rattle.std.proofs.Common.{◌≡◌, ℕ, ℤ, pos, List, [], ◌∷◌, length, map, Option, Some, None, refl, arith}
use Rattle.std.proofs.lemmas.Bool.{false≢true}
use Rattle.std.specs.List.{sum_by}
use Rattle.std.specs.Option.{option_map, option_and_then}
use Rattle.std.specs.Prelude.{codes, unwrap_or}
use Rattle.beam_values.specs.Bags.{IsSameBag}
use Rattle.beam_values.specs.Intervals.{Interval}
use Rattle.beam_values.specs.Lines.{offsets}
use Rattle.beam_values.specs.declared.element.Element.{Element}
use Rattle.beam_values.specs.declared.element.Timing.TheVariants.{OnTime, Unknown}
use Rattle.beam_values.specs.declared.plan.Args.TheVariants.{Nothing, Two}
use Rattle.beam_values.specs.declared.plan.Estimator.TheVariants as estimator
use Rattle.beam_values.specs.declared.plan.FnKind.TheVariants.{Words, JoinList, JoinSingle, JoinLookup}
use Rattle.beam_values.specs.declared.plan.NodeKind.TheVariants.{Source, ParDo, Group, Write}
use Rattle.beam_values.specs.declared.plan.Plan.{Plan}
use Rattle.beam_values.specs.declared.plan.SourceKind.TheVariants.{Lines, Count}
use Rattle.beam_values.specs.declared.value.Value.{Value}
use Rattle.beam_values.specs.declared.value.Value.TheViews.{out-roll-Value}
use Rattle.beam_values.proofs.Bags.{bag_from_same}
use Rattle.beam_model.specs.Plans.{node, default_trigger}
use Rattle.beam_model.specs.Positions.{SourceItem, items}
use Rattle.beam_model.specs.Sides.{put_out_by, put_out_of, joined_element, IsPutOutAt, IsSidePlain}
use Rattle.beam_model.specs.Spread.{from_source}
use Rattle.beam_model.specs.Values.{as_pair, as_seq, int, blob, pair, seq}

-- ---- what nodes put out

-- the words of lines, grouped and written; the first node is a source of lines
abbrev words_plan : Plan
words_plan = record {
  version = 1;
  nodes = node (Source Lines Nothing (codes "f" ∷ []) estimator.None) []
      ∷ node (ParDo Words Nothing) (0 ∷ [])
      ∷ node (Group default_trigger) (1 ∷ [])
      ∷ node (Write (codes "out")) (2 ∷ [])
      ∷ [];
}

abbrev of_source : Value → Element
of_source v = from_source (record { value = v; time = pos 0 })

abbrev line : Element
line = of_source (blob (codes "to be"))

words_of_a_line : put_out_by words_plan 1 0 line ≡ of_source (blob (codes "to")) ∷ of_source (blob (codes "be")) ∷ []
words_of_a_line = simp out-roll-Value refl

a_line_itself : put_out_by words_plan 0 0 line ≡ line ∷ []
a_line_itself = simp out-roll-Value refl

nothing_behind_a_group : put_out_by words_plan 3 0 line ≡ []
nothing_behind_a_group = simp out-roll-Value refl

-- all that a source of two numbers puts out
abbrev numbers_plan : Plan
numbers_plan = record { version = 1; nodes = node (Source Count (Two 2 0) [] estimator.None) [] ∷ node (Write (codes "out")) (0 ∷ []) ∷ [] }

numbers_of_a_source : put_out_of numbers_plan (items [] numbers_plan) [] 0 ≡ of_source (int (pos 0)) ∷ of_source (int (pos 1)) ∷ []
unfolding offsets
numbers_of_a_source = refl

-- What a node puts out that isn't above the barrier is not told by a plain run up to the barrier: another branch's Group may give panes that the run
-- doesn't have.
abbrev two_branches : Plan
two_branches = record {
  version = 1;
  nodes = node (Source Count (Two 1 0) [] estimator.None) []
      ∷ node (Group default_trigger) (0 ∷ [])
      ∷ node (Write (codes "a")) (1 ∷ [])
      ∷ node (Source Count (Two 0 0) [] estimator.None) []
      ∷ node (Write (codes "b")) (3 ∷ [])
      ∷ [];
}

a_node_of_another_branch_is_not_told : (elements : List Element) → IsPutOutAt two_branches (items [] two_branches) 4 1 elements → ⊥
a_node_of_another_branch_is_not_told elements told = false≢true told.0

-- ---- main elements and views: `x` in the first minute and `y` in the second, and a view with 5 in the first

abbrev minute : ℤ → ℤ → Interval
minute start end = record { start = start; end = end }

abbrev early : Value → Element
early v = record { value = v; time = pos 1000; span = minute (pos 0) (pos 60000); pane = record { timing = Unknown; index = 0 } }

abbrev late : Value → Element
late v = record { value = v; time = pos 61000; span = minute (pos 60000) (pos 120000); pane = record { timing = Unknown; index = 0 } }

abbrev mains : List Element
mains = early (blob (codes "x")) ∷ late (blob (codes "y")) ∷ []

abbrev views : List Element
views = early (int (pos 5)) ∷ []

abbrev at_the_end : Interval → ℤ → Value → Element
at_the_end span time v = record { value = v; time = time; span = span; pane = record { timing = OnTime; index = 0 } }

abbrev joined_early : Element
joined_early = at_the_end (minute (pos 0) (pos 60000)) (pos 59999) (pair (blob (codes "x")) (seq (int (pos 5) ∷ [])))

abbrev joined_late : Value → Element
joined_late view = at_the_end (minute (pos 60000) (pos 120000)) (pos 119999) (pair (blob (codes "y")) view)

each_main_meets_the_view_of_its_window : IsSidePlain JoinList mains views (joined_early ∷ joined_late (seq []) ∷ [])
each_main_meets_the_view_of_its_window =
    bag_from_same (Some joined_early ∷ Some (joined_late (seq [])) ∷ []) (joined_element JoinList views (early (blob (codes "x"))) ∷ joined_element JoinList views (late (blob (codes "y"))) ∷ []) refl

-- the second window has no value that could be its only one
no_only_value : joined_element JoinSingle views (late (blob (codes "y"))) ≡ None
no_only_value = refl

-- a view with a value that is no pair has nothing to look up in
a_view_without_keys_joins_nothing : joined_element JoinLookup (early (blob (codes "q")) ∷ []) (early (pair (blob (codes "a")) (blob (codes "x")))) ≡ None
a_view_without_keys_joins_nothing = simp out-roll-Value refl

-- how many values of the view an element was joined with
abbrev met_by : Option Element → ℕ
met_by None = 0
met_by (Some e) = unwrap_or (option_map length (option_and_then (λ keyed. as_seq keyed.part) (as_pair e.value))) 0

-- a join that takes the view of another window is refused
the_view_of_another_window_is_refused : IsSidePlain JoinList mains views (joined_early ∷ joined_late (seq (int (pos 5) ∷ [])) ∷ []) → ⊥
the_view_of_another_window_is_refused h =
    let taken : sum_by met_by (Some joined_early ∷ Some (joined_late (seq (int (pos 5) ∷ []))) ∷ []) ≡ 2 = simp out-roll-Value refl in
    let plain : sum_by met_by (map (joined_element JoinList views) mains) ≡ 1 = simp out-roll-Value refl in
    absurd (omega (arith, h.weighs met_by, taken, plain))
