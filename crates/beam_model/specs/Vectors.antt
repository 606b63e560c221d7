-- Each function and each source computed: a good input, a poison one where there is one, and an edge; and a plan and a summary.
use Rattle.std.specs.Prelude.{◌≡◌, ℕ, ℤ, pos, negsuc, List, [], ◌∷◌, ◌++◌, Option, Some, None, codes, refl}
use Rattle.std.specs.Fmt.{digits}
use Rattle.beam_values.specs.Checked.{graph_refusal}
use Rattle.beam_values.specs.Intervals.{Interval}
use Rattle.beam_values.specs.declared.value.Value.{Value}
use Rattle.beam_values.specs.declared.value.Value.TheViews.{out-roll-Value}
use Rattle.beam_values.specs.declared.value.Value.TheFolds.{fold-roll-Value}
use Rattle.beam_values.specs.Spelling.{groups}
use Rattle.beam_values.specs.declared.element.Element.{Element}
use Rattle.beam_values.specs.declared.element.Timing.TheVariants.{OnTime, Unknown}
use Rattle.beam_values.specs.declared.fault.Cause.TheVariants.{Call}
use Rattle.beam_values.specs.declared.graph_refusal.GraphRefusal.TheVariants as refusal
use Rattle.beam_values.specs.declared.log.LogInput.TheVariants.{Arrived, Fired}
use Rattle.beam_values.specs.declared.outcome.Outcome.{Outcome}
use Rattle.beam_values.specs.declared.plan.Args.TheVariants.{Nothing, Text, Number, Two}
use Rattle.beam_values.specs.declared.plan.FnKind.TheVariants.{KeyField, Words, Field, KeepPrefix, FieldInt, Swap, Shift, SumSeq, CountSeq, MaxSeq, Unseq, Values, Tag, JoinList, JoinSingle, JoinLookup}
use Rattle.beam_values.specs.declared.plan.SourceKind.TheVariants.{Lines, TimedLines, Count, Made}
use Rattle.beam_values.specs.declared.plan.StateKind.TheVariants.{Dedupe, RunningSum, BatchUntil, LatestThenEmit}
use Rattle.beam_values.specs.declared.state_cell.StateCell.{StateCell}
use Rattle.beam_values.specs.declared.state_cell.StateCell.TheVariants.{Unset, Number as NumberCell, Bag}
use Rattle.beam_model.specs.Values.{null, int, blob, pair, seq}
use Rattle.beam_model.specs.Functions.{emits, fold_of}
use Rattle.beam_values.specs.States.{KeptState}
use Rattle.beam_model.specs.Plans.{panes_plan}
use Rattle.beam_model.specs.Rendering.{dead_line, summary}
use Rattle.beam_model.specs.Steps.{Stepped, steps}
use Rattle.beam_model.specs.Positions.{Poison, nothing, Emits, emission, emits_one, next_position, made_line}

-- the element under test: at time 500, in the window [0, 1000)
abbrev span : Interval
span = record { start = pos 0; end = pos 1000 }

abbrev at : ℤ → Value → Element
at time v = record { value = v; time = time; span = span; pane = record { timing = OnTime; index = 3 } }

abbrev with : Value → Element
with v = at (pos 500) v

abbrev text : List ℕ → Value
text bytes = blob bytes

-- a key and its part; a key and a sequence of numbers
abbrev keyed : Value → Value
keyed part = pair (text (codes "a")) part

-- two fields with a TAB between
abbrev tabbed : List ℕ → List ℕ → List ℕ
tabbed first second = first ++ (9 ∷ second)

-- Element functions.

key_field : emits KeyField Nothing (with (text (tabbed (codes "a") (tabbed (codes "x") (codes "y"))))) ≡ Some (with (keyed (text (tabbed (codes "x") (codes "y")))) ∷ [])
key_field = simp out-roll-Value refl

key_field_without_a_tab : emits KeyField Nothing (with (text (codes "ab"))) ≡ Some (with (pair (text (codes "ab")) (text [])) ∷ [])
key_field_without_a_tab = simp out-roll-Value refl

key_field_of_a_number : emits KeyField Nothing (with (int (pos 1))) ≡ None
key_field_of_a_number = simp out-roll-Value refl

words : emits Words Nothing (with (text (codes "to be,or2 "))) ≡ Some (with (text (codes "to")) ∷ with (text (codes "be")) ∷ with (text (codes "or2")) ∷ [])
words = simp out-roll-Value refl

words_of_an_empty_text : emits Words Nothing (with (text [])) ≡ Some []
words_of_an_empty_text = simp out-roll-Value refl

words_of_null : emits Words Nothing (with null) ≡ None
words_of_null = simp out-roll-Value refl

field : emits Field (Number (pos 1)) (with (text (tabbed (codes "a") (codes "b")))) ≡ Some (with (text (codes "b")) ∷ [])
field = simp out-roll-Value refl

field_of_an_empty_text : emits Field (Number (pos 0)) (with (text [])) ≡ Some (with (text []) ∷ [])
field_of_an_empty_text = simp out-roll-Value refl

field_beyond_the_last : emits Field (Number (pos 2)) (with (text (tabbed (codes "a") (codes "b")))) ≡ None
field_beyond_the_last = simp out-roll-Value refl

keep_prefix : emits KeepPrefix (Text (codes "ab")) (with (text (codes "abc"))) ≡ Some (with (text (codes "abc")) ∷ [])
keep_prefix = simp out-roll-Value refl

keep_prefix_of_another_text : emits KeepPrefix (Text (codes "ab")) (with (text (codes "a"))) ≡ Some []
keep_prefix_of_another_text = simp out-roll-Value refl

keep_prefix_of_a_number : emits KeepPrefix (Text []) (with (int (pos 1))) ≡ Some []
keep_prefix_of_a_number = simp out-roll-Value refl

field_int : emits FieldInt Nothing (with (keyed (text (codes "-007")))) ≡ Some (with (keyed (int (negsuc 6))) ∷ [])
field_int = simp out-roll-Value refl

field_int_least : emits FieldInt Nothing (with (keyed (text (codes "-9223372036854775808")))) ≡ Some (with (keyed (int (negsuc 9223372036854775807))) ∷ [])
field_int_least = simp out-roll-Value refl

field_int_too_great : emits FieldInt Nothing (with (keyed (text (codes "9223372036854775808")))) ≡ None
field_int_too_great = simp out-roll-Value refl

field_int_of_a_sign : emits FieldInt Nothing (with (keyed (text (codes "-")))) ≡ None
field_int_of_a_sign = simp out-roll-Value refl

swap : emits Swap Nothing (with (keyed (int (pos 1)))) ≡ Some (with (pair (int (pos 1)) (text (codes "a"))) ∷ [])
swap = simp out-roll-Value refl

swap_of_null : emits Swap Nothing (with null) ≡ None
swap_of_null = simp out-roll-Value refl

shift : emits Shift (Number (pos 250)) (with null) ≡ Some (at (pos 750) null ∷ [])
shift = refl

shift_is_cut_at_the_greatest_time : emits Shift (Number (pos 31536000000000)) (at (pos 9223372036854775) null) ≡ Some (at (pos 9223372036854775) null ∷ [])
shift_is_cut_at_the_greatest_time = refl

sum_seq : emits SumSeq Nothing (with (keyed (seq (int (pos 9223372036854775807) ∷ int (pos 1) ∷ int (negsuc 0) ∷ [])))) ≡ Some (with (keyed (int (pos 9223372036854775807))) ∷ [])
sum_seq = simp out-roll-Value refl

sum_seq_of_nothing : emits SumSeq Nothing (with (keyed (seq []))) ≡ Some (with (keyed (int (pos 0))) ∷ [])
sum_seq_of_nothing = simp out-roll-Value refl

sum_seq_that_leaves_64_bits : emits SumSeq Nothing (with (keyed (seq (int (pos 9223372036854775807) ∷ int (pos 1) ∷ [])))) ≡ None
sum_seq_that_leaves_64_bits = simp out-roll-Value refl

sum_seq_of_a_text : emits SumSeq Nothing (with (keyed (seq (text [] ∷ [])))) ≡ None
sum_seq_of_a_text = simp out-roll-Value refl

count_seq : emits CountSeq Nothing (with (keyed (seq (null ∷ text [] ∷ [])))) ≡ Some (with (keyed (int (pos 2))) ∷ [])
count_seq = simp out-roll-Value refl

count_seq_of_a_number : emits CountSeq Nothing (with (keyed (int (pos 2)))) ≡ None
count_seq_of_a_number = simp out-roll-Value refl

max_seq : emits MaxSeq Nothing (with (keyed (seq (int (negsuc 4) ∷ int (pos 3) ∷ int (pos 2) ∷ [])))) ≡ Some (with (keyed (int (pos 3))) ∷ [])
max_seq = simp out-roll-Value refl

max_seq_of_nothing : emits MaxSeq Nothing (with (keyed (seq []))) ≡ Some (with (keyed null) ∷ [])
max_seq_of_nothing = simp out-roll-Value refl

max_seq_of_null : emits MaxSeq Nothing (with (keyed (seq (null ∷ [])))) ≡ None
max_seq_of_null = simp out-roll-Value refl

unseq : emits Unseq Nothing (with (keyed (seq (null ∷ int (pos 1) ∷ [])))) ≡ Some (with (keyed null) ∷ with (keyed (int (pos 1))) ∷ [])
unseq = simp out-roll-Value refl

unseq_of_nothing : emits Unseq Nothing (with (keyed (seq []))) ≡ Some []
unseq_of_nothing = simp out-roll-Value refl

unseq_of_null : emits Unseq Nothing (with null) ≡ None
unseq_of_null = simp out-roll-Value refl

values : emits Values Nothing (with (keyed (int (pos 4)))) ≡ Some (with (int (pos 4)) ∷ [])
values = simp out-roll-Value refl

values_of_a_sequence : emits Values Nothing (with (seq [])) ≡ None
values_of_a_sequence = simp out-roll-Value refl

-- folds of parts: what the functions of sequences give of a pane with these parts
fold_of_a_sum : fold_of SumSeq (int (pos 1) ∷ int (pos 3) ∷ []) ≡ Some (int (pos 4))
fold_of_a_sum = simp out-roll-Value refl

fold_of_a_sum_that_leaves_64_bits : fold_of SumSeq (int (pos 9223372036854775807) ∷ int (pos 1) ∷ []) ≡ None
fold_of_a_sum_that_leaves_64_bits = simp out-roll-Value refl

fold_of_a_count : fold_of CountSeq (null ∷ text [] ∷ []) ≡ Some (int (pos 2))
fold_of_a_count = simp out-roll-Value refl

fold_of_another_function : fold_of Unseq (null ∷ []) ≡ None
fold_of_another_function = refl

-- Side inputs: parts tagged 1 of the main input, and 0 of the view.

abbrev main : Value → Value
main v = pair (int (pos 1)) v

abbrev view : Value → Value
view v = pair (int (pos 0)) v

abbrev sides : List Value → Element
sides parts = with (pair null (seq parts))

tag : emits Tag (Number (pos 1)) (with (text (codes "x"))) ≡ Some (with (pair null (main (text (codes "x")))) ∷ [])
tag = refl

join_list : emits JoinList Nothing (sides (view (int (pos 7)) ∷ view (int (pos 5)) ∷ main (text (codes "x")) ∷ main (text (codes "y")) ∷ []))
    ≡ Some (with (pair (text (codes "x")) (seq (int (pos 5) ∷ int (pos 7) ∷ []))) ∷ with (pair (text (codes "y")) (seq (int (pos 5) ∷ int (pos 7) ∷ []))) ∷ [])
unfolding groups
join_list = simp (out-roll-Value, fold-roll-Value) refl

join_list_without_a_view : emits JoinList Nothing (sides (main null ∷ [])) ≡ Some (with (pair null (seq [])) ∷ [])
join_list_without_a_view = simp out-roll-Value refl

join_list_of_a_tag_of_two : emits JoinList Nothing (sides (pair (int (pos 2)) null ∷ [])) ≡ None
join_list_of_a_tag_of_two = simp out-roll-Value refl

join_list_of_another_key : emits JoinList Nothing (with (pair (text (codes "a")) (seq []))) ≡ None
join_list_of_another_key = simp out-roll-Value refl

join_single : emits JoinSingle Nothing (sides (view (int (pos 5)) ∷ main (text (codes "x")) ∷ [])) ≡ Some (with (pair (text (codes "x")) (int (pos 5))) ∷ [])
join_single = simp out-roll-Value refl

join_single_of_two : emits JoinSingle Nothing (sides (view (int (pos 5)) ∷ view (int (pos 7)) ∷ main null ∷ [])) ≡ None
join_single_of_two = simp out-roll-Value refl

join_single_of_none : emits JoinSingle Nothing (sides (main null ∷ [])) ≡ None
join_single_of_none = simp out-roll-Value refl

-- where no main value asks, nothing is poison
join_single_without_a_main : emits JoinSingle Nothing (sides (view (int (pos 5)) ∷ view (int (pos 7)) ∷ [])) ≡ Some []
join_single_without_a_main = simp out-roll-Value refl

join_lookup : emits JoinLookup Nothing (sides (view (keyed (int (pos 5))) ∷ view (pair (text (codes "b")) (int (pos 9))) ∷ view (keyed (int (pos 4))) ∷ main (keyed (text (codes "x"))) ∷ []))
    ≡ Some (with (pair (keyed (text (codes "x"))) (seq (int (pos 4) ∷ int (pos 5) ∷ []))) ∷ [])
unfolding groups
join_lookup = simp (out-roll-Value, fold-roll-Value) refl

join_lookup_of_no_such_key : emits JoinLookup Nothing (sides (view (keyed (int (pos 5))) ∷ main (pair (text (codes "b")) null) ∷ []))
    ≡ Some (with (pair (pair (text (codes "b")) null) (seq [])) ∷ [])
unfolding groups
join_lookup_of_no_such_key = simp (out-roll-Value, fold-roll-Value) refl

join_lookup_of_a_main_without_a_key : emits JoinLookup Nothing (sides (main null ∷ [])) ≡ None
join_lookup_of_a_main_without_a_key = simp out-roll-Value refl

-- also where no main value asks
join_lookup_in_a_view_without_keys : emits JoinLookup Nothing (sides (view null ∷ [])) ≡ None
join_lookup_in_a_view_without_keys = simp out-roll-Value refl

-- Stateful functions, of the key `a`. Cells 0 and 1 and timer 0 are as given, and the others unset.

abbrev kept : StateCell → StateCell → Option ℤ → KeptState
kept zeroth first timer = record {
  cells = zeroth ∷ first ∷ Unset ∷ Unset ∷ Unset ∷ Unset ∷ Unset ∷ Unset ∷ [];
  timers = timer ∷ None ∷ None ∷ None ∷ None ∷ None ∷ None ∷ None ∷ [];
}

abbrev fresh : KeptState
fresh = kept Unset Unset None

abbrev gives : KeptState → List Element → Option Stepped
gives after outputs = Some (record { kept = after; outputs = outputs })

-- what a timer gives
abbrev late : ℤ → Value → Element
late time v = record { value = v; time = time; span = span; pane = record { timing = Unknown; index = 0 } }

abbrev element : ℤ → Value → Element
element time part = at time (keyed part)

dedupe_first : steps Dedupe Nothing (text (codes "a")) span (Arrived (with (keyed null))) fresh ≡ gives (kept (Bag (null ∷ [])) Unset None) (with (keyed null) ∷ [])
dedupe_first = simp out-roll-Value refl

dedupe_again : steps Dedupe Nothing (text (codes "a")) span (Arrived (with (keyed null))) (kept (Bag (null ∷ [])) Unset None) ≡ gives (kept (Bag (null ∷ [])) Unset None) []
unfolding groups
dedupe_again = simp (out-roll-Value, fold-roll-Value) refl

dedupe_on_a_timer : steps Dedupe Nothing (text (codes "a")) span (Fired (record { name = 0; time = pos 9 })) fresh ≡ gives fresh []
dedupe_on_a_timer = refl

running_sum : steps RunningSum Nothing (text (codes "a")) span (Arrived (with (keyed (int (pos 4))))) (kept (NumberCell (pos 3)) Unset None) ≡ gives (kept (NumberCell (pos 7)) Unset None) (with (keyed (int (pos 7))) ∷ [])
running_sum = simp out-roll-Value refl

-- a cell of another form counts as unset
running_sum_over_a_bag : steps RunningSum Nothing (text (codes "a")) span (Arrived (with (keyed (int (pos 4))))) (kept (Bag []) Unset None) ≡ gives (kept (NumberCell (pos 4)) Unset None) (with (keyed (int (pos 4))) ∷ [])
running_sum_over_a_bag = simp out-roll-Value refl

running_sum_that_leaves_64_bits : steps RunningSum Nothing (text (codes "a")) span (Arrived (with (keyed (int (negsuc 0))))) (kept (NumberCell (negsuc 9223372036854775807)) Unset None) ≡ None
running_sum_that_leaves_64_bits = simp out-roll-Value refl

running_sum_of_a_text : steps RunningSum Nothing (text (codes "a")) span (Arrived (with (keyed (text [])))) fresh ≡ None
running_sum_of_a_text = simp out-roll-Value refl

batch_begins : steps BatchUntil (Number (pos 2)) (text (codes "a")) span (Arrived (with (keyed (int (pos 3))))) fresh ≡ gives (kept (Bag (int (pos 3) ∷ [])) Unset (Some (pos 999))) []
batch_begins = simp out-roll-Value refl

-- a full batch ascends, and leaves neither values nor a timer
batch_is_full : steps BatchUntil (Number (pos 2)) (text (codes "a")) span (Arrived (with (keyed (int (pos 1))))) (kept (Bag (int (pos 3) ∷ [])) Unset (Some (pos 999))) ≡ gives fresh (with (keyed (seq (int (pos 1) ∷ int (pos 3) ∷ []))) ∷ [])
unfolding groups
batch_is_full = simp (out-roll-Value, fold-roll-Value) refl

batch_at_the_end_of_the_window : steps BatchUntil (Number (pos 2)) (text (codes "a")) span (Fired (record { name = 0; time = pos 999 })) (kept (Bag (int (pos 2) ∷ [])) Unset (Some (pos 999))) ≡ gives fresh (late (pos 999) (keyed (seq (int (pos 2) ∷ []))) ∷ [])
batch_at_the_end_of_the_window = refl

batch_at_the_end_without_values : steps BatchUntil (Number (pos 2)) (text (codes "a")) span (Fired (record { name = 0; time = pos 999 })) (kept Unset Unset (Some (pos 999))) ≡ gives fresh []
batch_at_the_end_without_values = refl

batch_on_another_timer : steps BatchUntil (Number (pos 2)) (text (codes "a")) span (Fired (record { name = 1; time = pos 999 })) (kept (Bag (null ∷ [])) Unset (Some (pos 999))) ≡ gives (kept (Bag (null ∷ [])) Unset (Some (pos 999))) []
batch_on_another_timer = refl

latest_first : steps LatestThenEmit (Number (pos 500)) (text (codes "a")) span (Arrived (element (pos 100) (text (codes "x")))) fresh ≡ gives (kept (Bag (text (codes "x") ∷ [])) (NumberCell (pos 100)) (Some (pos 600))) []
latest_first = simp out-roll-Value refl

-- a later value takes the place of the one before, and sets the timer again; an earlier one does neither
latest_of_a_later_value : steps LatestThenEmit (Number (pos 500)) (text (codes "a")) span (Arrived (element (pos 300) (text (codes "y")))) (kept (Bag (text (codes "x") ∷ [])) (NumberCell (pos 100)) (Some (pos 600))) ≡ gives (kept (Bag (text (codes "y") ∷ [])) (NumberCell (pos 300)) (Some (pos 800))) []
latest_of_a_later_value = simp out-roll-Value refl

latest_of_an_earlier_value : steps LatestThenEmit (Number (pos 500)) (text (codes "a")) span (Arrived (element (pos 50) (text (codes "y")))) (kept (Bag (text (codes "x") ∷ [])) (NumberCell (pos 100)) (Some (pos 600))) ≡ gives (kept (Bag (text (codes "x") ∷ [])) (NumberCell (pos 100)) (Some (pos 600))) []
latest_of_an_earlier_value = refl

latest_is_emitted : steps LatestThenEmit (Number (pos 500)) (text (codes "a")) span (Fired (record { name = 0; time = pos 600 })) (kept (Bag (text (codes "x") ∷ [])) (NumberCell (pos 100)) (Some (pos 600))) ≡ gives fresh (late (pos 600) (keyed (text (codes "x"))) ∷ [])
latest_is_emitted = refl

-- Sources. The file has a CR LF line, an empty line, and a last line without LF.

abbrev file : List ℕ
file = codes "5" ++ (9 ∷ (codes "x" ++ 13 ∷ 10 ∷ 10 ∷ codes "!7"))

lines : emission Lines Nothing file 0 ≡ emits_one (text (tabbed (codes "5") (codes "x"))) (negsuc 9223372036854774)
lines = refl

lines_inside_a_line : emission Lines Nothing file 1 ≡ nothing
lines_inside_a_line = refl

lines_of_an_empty_line : emission Lines Nothing file 5 ≡ emits_one (text []) (negsuc 9223372036854774)
lines_of_an_empty_line = refl

lines_next : next_position Lines file 0 ≡ 5
lines_next = refl

lines_next_of_the_last : next_position Lines file 6 ≡ 8
lines_next_of_the_last = refl

timed_lines : emission TimedLines Nothing file 0 ≡ emits_one (text (codes "x")) (pos 5)
timed_lines = refl

timed_lines_of_an_empty_line : emission TimedLines Nothing file 5 ≡ Poison
timed_lines_of_an_empty_line = refl

timed_lines_of_a_mark : emission TimedLines Nothing file 6 ≡ Emits [] (Some (pos 7))
timed_lines_of_a_mark = refl

timed_lines_inside_a_line : emission TimedLines Nothing file 7 ≡ nothing
timed_lines_inside_a_line = refl

count : emission Count (Two 3 1000) [] 2 ≡ emits_one (int (pos 2)) (pos 2000)
count = refl

count_next : next_position Count [] 2 ≡ 3
count_next = refl

-- the first and the last of three lines after the number 7
made_first : made_line 7 0 ≡ tabbed (codes "59") (tabbed (codes "k7") (codes "7"))
unfolding digits
made_first = refl

made_last : made_line 7 2 ≡ tabbed (codes "233") (tabbed (codes "k5") (codes "9"))
unfolding digits
made_last = refl

made : emission Made (Two 3 7) [] 1 ≡ emits_one (text (tabbed (codes "k14") (codes "8"))) (pos 196)
unfolding digits
made = refl

-- The pipeline of `panes` is a checked plan.

panes_plan_is_checked : graph_refusal (panes_plan (codes "data/bids.txt") (pos 60000)) ≡ None
panes_plan_is_checked = refl

panes_plan_without_a_size : graph_refusal (panes_plan (codes "data/bids.txt") (pos 0)) ≡ Some (refusal.Setting 2)
panes_plan_without_a_size = refl

-- The summary of a run over one item of 5 bytes that wrote one pane, with the numbers 3 and 1.

abbrev summed : Outcome
summed = record {
  plan = panes_plan (codes "f") (pos 60000);
  files = record { node = 0; item = 0; len = 5 } ∷ [];
  done = [];
  dead = [];
  cells = [];
  panes = [];
  dropped = [];
  logs = [];
  written = record { node = 4; element = with (keyed (seq (int (pos 3) ∷ int (pos 1) ∷ []))) } ∷ [];
  commits = [];
  stopped = None;
}

abbrev ended : List ℕ → List ℕ
ended line = line ++ 10 ∷ []

-- the line of the position 9 of the first item, set aside since the source itself failed there
line_of_a_dead_position : dead_line (record { node = 0; item = 0; at = 9; note = record { node = 0; item = 0; at = 0; attempt = 3; cause = Call } })
    ≡ ended (tabbed (codes "dead") (tabbed (codes "0") (tabbed (codes "0") (tabbed (codes "9") (codes "0")))))
unfolding digits
line_of_a_dead_position = refl

summary_of_one_pane : summary summed ≡ ended (codes "lines 5") ++ (ended (codes "panes 1") ++ (ended (codes "values 2") ++ ended (codes "sum 4")))
unfolding digits
summary_of_one_pane = simp out-roll-Value refl
