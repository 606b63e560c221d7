-- What functions give: in which window and at which time.
use Rattle.std.proofs.Common.{◌≡◌, ℕ, ◌==◌, ℤ, pos, ◌≤ℤ◌, Bool, true, false, List, [], ◌∷◌, length, map, Option, Some, None, refl, subst, arith}
use Rattle.std.specs.Prelude.{slice_get, if◌then◌else◌}
use Rattle.std.specs.List.{All, AllByRecursion}
use Rattle.std.specs.Option.{IfSome, option_map, option_and_then}
use Rattle.std.proofs.lemmas.Int.{ints, clamps}
use Rattle.std.proofs.lemmas.List.Elements.{All-from_recursion}
use Rattle.beam_values.specs.Intervals.{Interval}
use Rattle.beam_values.specs.Grouping.{part_of}
use Rattle.beam_values.specs.Times.{greatest_time}
use Rattle.beam_values.specs.Windows.{or_zero}
use Rattle.beam_values.specs.declared.value.Value.{Value}
use Rattle.beam_values.specs.declared.element.Element.{Element}
use Rattle.beam_values.specs.declared.log.LogInput.{LogInput}
use Rattle.beam_values.specs.declared.log.LogInput.TheVariants.{Arrived, Fired}
use Rattle.beam_values.specs.declared.log.Timer.{Timer}
use Rattle.beam_values.specs.declared.state_cell.StateCell.TheVariants.{Number}
use Rattle.beam_values.specs.declared.plan.Args.{Args}
use Rattle.beam_values.specs.declared.plan.FnKind.{FnKind}
use Rattle.beam_values.specs.declared.plan.FnKind.TheVariants.{KeyField, Words, Field, KeepPrefix, FieldInt, Swap, Shift, SumSeq, CountSeq, MaxSeq, Unseq, Values, Tag, JoinList, JoinSingle, JoinLookup}
use Rattle.beam_values.specs.declared.plan.StateKind.{StateKind}
use Rattle.beam_values.specs.declared.plan.StateKind.TheVariants.{Dedupe, RunningSum, BatchUntil, LatestThenEmit}
use Rattle.beam_model.specs.Values.{KeyedValue, null, blob, int, pair, seq, as_blob, as_pair, as_seq, as_int}
use Rattle.beam_model.specs.Functions.{number_arg, text_arg, later_by, in_word, valued, one, keyed_text, on_part, int_in, sum_in, count_in, greatest_in, from_blob, from_pair, kept_prefix, joined_values, side_parts, joins, emits}
use Rattle.beam_model.specs.Texts.{words, fields, begins_with}
use Rattle.beam_model.specs.Premises.{KeepsPlace, IsForward, IsOfCall}
use Rattle.beam_values.specs.States.{KeptState}
use Rattle.beam_model.specs.Functions.{ascending}
use Rattle.beam_model.specs.Steps.{Stepped, bag, with_cell, stepped, timer_output, holds_value, sum_so_far, collected, last_batch, on_element, on_first_timer, steps}
use Rattle.beam_model.proofs.Lists.{each-map}

-- of what an option gives, where it gives something
if_map : {X Y : Type 0} (P : Y → Type 0) (f : X → Y) → ((x : X) → P (f x)) → (o : Option X) → IfSome (option_map f o) P
if_map P f h None = tt
if_map P f h (Some x) = h x

if_then : {X Y : Type 0} (P : Y → Type 0) (f : X → Option Y) → ((x : X) → IfSome (f x) P) → (o : Option X) → IfSome (option_and_then f o) P
if_then P f h None = tt
if_then P f h (Some x) = h x

at_some : {X : Type 0} (P : X → Type 0) (o : Option X) (x : X) → o ≡ Some x → IfSome o P → P x
at_some P o x is h = subst (λ (it : Option _). IfSome it P) is h

module _ (e : Element) (within : e.time ≤ℤ greatest_time) where
  abbrev Kept : List Element → Type 0
  Kept outputs = AllByRecursion (KeepsPlace e) outputs

  valued_keeps : (v : Value) → KeepsPlace e (valued e v)
  valued_keeps v = record { span = refl; pane = refl; time = omega (arith, ints); bound = within }

  one_keeps : (v : Value) → Kept (one e v)
  one_keeps v = (valued_keeps v, tt)

  prefix_keeps : (prefix : List ℕ) (text : Option (List ℕ)) → Kept (kept_prefix prefix e text)
  prefix_keeps prefix None = tt
  prefix_keeps prefix (Some text) = by_test (begins_with prefix text)
    where
      by_test : (begins : Bool) → Kept (if begins then e ∷ [] else [])
      by_test true = (record { span = refl; pane = refl; time = omega (arith, ints); bound = within }, tt)
      by_test false = tt

  from_blob_keeps : (give : List ℕ → Option (List Element)) → ((text : List ℕ) → IfSome (give text) Kept) → IfSome (from_blob e give) Kept
  from_blob_keeps give h = if_then Kept give h (as_blob e.value)

  from_pair_keeps : (give : KeyedValue → Option (List Element)) → ((keyed : KeyedValue) → IfSome (give keyed) Kept) → IfSome (from_pair e give) Kept
  from_pair_keeps give h = if_then Kept give h (as_pair e.value)

  -- of what a function of a pair's part gives
  part_keeps : (change : Value → Option Value) → IfSome (from_pair e (λ keyed. option_map (one e) (on_part change keyed))) Kept
  part_keeps change = from_pair_keeps (λ keyed. option_map (one e) (on_part change keyed)) (λ keyed. if_map Kept (one e) one_keeps (on_part change keyed))

  shift_keeps : (delay : ℤ) → pos 0 ≤ℤ delay → KeepsPlace e (record e { time = later_by delay e.time })
  shift_keeps delay forward = record { span = refl; pane = refl; time = omega (arith, ints, clamps); bound = omega (arith, ints, clamps) }

  -- of what a join gives: each main value with another one
  joins_keep : (kind : FnKind) → IfSome (joins kind e) Kept
  joins_keep kind =
      from_pair_keeps (λ keyed. option_map (map (valued e)) (option_and_then (joined_values kind) (side_parts keyed)))
      (λ keyed. if_map Kept (map (valued e)) (each-map (KeepsPlace e) (valued e) valued_keeps) (option_and_then (joined_values kind) (side_parts keyed)))

  emits_keeps : (kind : FnKind) (args : Args) → IsForward kind args → IfSome (emits kind args e) Kept
  emits_keeps KeyField args forward = from_blob_keeps (λ text. Some (one e (keyed_text text))) (λ text. one_keeps (keyed_text text))
  emits_keeps Words args forward =
      from_blob_keeps (λ text. Some (map (λ word. valued e (blob word)) (words text)))
      (λ text. each-map (KeepsPlace e) (λ word. valued e (blob word)) (λ word. valued_keeps (blob word)) (words text))
  emits_keeps Field args forward =
      from_blob_keeps (λ text. option_map (λ field. one e (blob field)) (slice_get (fields text) (or_zero (number_arg args))))
      (λ text. if_map Kept (λ field. one e (blob field)) (λ field. one_keeps (blob field)) (slice_get (fields text) (or_zero (number_arg args))))
  emits_keeps KeepPrefix args forward = prefix_keeps (text_arg args) (as_blob e.value)
  emits_keeps FieldInt args forward = part_keeps int_in
  emits_keeps Swap args forward = from_pair_keeps (λ keyed. Some (one e (pair keyed.part keyed.key))) (λ keyed. one_keeps (pair keyed.part keyed.key))
  emits_keeps Shift args forward = (shift_keeps (number_arg args) forward, tt)
  emits_keeps SumSeq args forward = part_keeps sum_in
  emits_keeps CountSeq args forward = part_keeps count_in
  emits_keeps MaxSeq args forward = part_keeps greatest_in
  emits_keeps Unseq args forward =
      from_pair_keeps (λ keyed. option_map (map (λ item. valued e (pair keyed.key item))) (as_seq keyed.part))
      (λ keyed. if_map Kept (map (λ item. valued e (pair keyed.key item)))
      (λ items. each-map (KeepsPlace e) (λ item. valued e (pair keyed.key item)) (λ item. valued_keeps (pair keyed.key item)) items)
      (as_seq keyed.part))
  emits_keeps Values args forward = from_pair_keeps (λ keyed. Some (one e keyed.part)) (λ keyed. one_keeps keyed.part)
  emits_keeps Tag args forward = one_keeps (pair null (pair (int (number_arg args)) e.value))
  emits_keeps JoinList args forward = joins_keep JoinList
  emits_keeps JoinSingle args forward = joins_keep JoinSingle
  emits_keeps JoinLookup args forward = joins_keep JoinLookup

pub emitted_keep : (kind : FnKind) (args : Args) (e : Element) (outputs : List Element)
    → e.time ≤ℤ greatest_time → IsForward kind args → emits kind args e ≡ Some outputs → All (KeepsPlace e) outputs
emitted_keep kind args e outputs within forward is =
    All-from_recursion (KeepsPlace e) outputs (at_some (Kept e within) (emits kind args e) outputs is (emits_keeps e within kind args forward))

-- ---- stateful calls

-- what a call gives is in the window and at the time of its input
abbrev OfCall : Interval → LogInput → Stepped → Type 0
OfCall span input after = AllByRecursion (IsOfCall span input) after.outputs

either_of_call : (span : Interval) (input : LogInput) (taken : Bool) (a b : Stepped) → OfCall span input a → OfCall span input b
    → OfCall span input (if taken then a else b)
either_of_call span input true a b h k = h
either_of_call span input false a b h k = k

-- one element that differs from the input in its value gives no other window and no other time
valued_of_call : (span : Interval) (e : Element) (kept : KeptState) (v : Value) → OfCall span (Arrived e) (stepped kept (valued e v ∷ []))
valued_of_call span e kept v = ((refl, refl), tt)

element_of_call : (kind : StateKind) (args : Args) (key : Value) (span : Interval) (e : Element) (kept : KeptState)
    → IfSome (on_element kind args key e kept) (OfCall span (Arrived e))
element_of_call Dedupe args key span e kept =
    either_of_call span (Arrived e) (holds_value (bag kept) (part_of e)) _ _ tt (valued_of_call span e kept (pair key (part_of e)))
element_of_call RunningSum args key span e kept =
    if_map (OfCall span (Arrived e)) (λ sum. stepped (with_cell 0 (Number sum) kept) (valued e (pair key (int sum)) ∷ []))
    (λ sum. valued_of_call span e kept (pair key (int sum)))
    (option_and_then (λ n. in_word (sum_so_far kept n)) (as_int (part_of e)))
element_of_call BatchUntil args key span e kept =
    either_of_call span (Arrived e) (length (bag (collected e kept)) == or_zero (number_arg args)) _ _
    (valued_of_call span e kept (pair key (seq (ascending (bag (collected e kept))))))
    tt
element_of_call LatestThenEmit args key span e kept = tt

last_batch_of_call : (key : Value) (span : Interval) (timer : Timer) (values : List Value)
    → AllByRecursion (IsOfCall span (Fired timer)) (last_batch key span timer.time values)
last_batch_of_call key span timer [] = tt
last_batch_of_call key span timer (v ∷ vs) = ((refl, refl), tt)

timer_of_call : (kind : StateKind) (key : Value) (span : Interval) (timer : Timer) (kept : KeptState)
    → OfCall span (Fired timer) (on_first_timer kind key span timer.time kept)
timer_of_call Dedupe key span timer kept = tt
timer_of_call RunningSum key span timer kept = tt
timer_of_call BatchUntil key span timer kept = last_batch_of_call key span timer (bag kept)
timer_of_call LatestThenEmit key span timer kept =
    each-map (IsOfCall span (Fired timer)) (λ v. timer_output span timer.time (pair key v)) (λ v. (refl, refl)) (bag kept)

named_of_call : (kind : StateKind) (key : Value) (span : Interval) (timer : Timer) (kept : KeptState) (first : Bool)
    → IfSome (if first then Some (on_first_timer kind key span timer.time kept) else Some (stepped kept [])) (OfCall span (Fired timer))
named_of_call kind key span timer kept true = timer_of_call kind key span timer kept
named_of_call kind key span timer kept false = tt

steps_of_call : (kind : StateKind) (args : Args) (key : Value) (span : Interval) (input : LogInput) (kept : KeptState)
    → IfSome (steps kind args key span input kept) (OfCall span input)
steps_of_call kind args key span (Arrived e) kept = element_of_call kind args key span e kept
steps_of_call kind args key span (Fired timer) kept = named_of_call kind key span timer kept (timer.name == 0)

pub stepped_keep : (kind : StateKind) (args : Args) (key : Value) (span : Interval) (input : LogInput) (kept : KeptState) (after : Stepped)
    → steps kind args key span input kept ≡ Some after → All (IsOfCall span input) after.outputs
stepped_keep kind args key span input kept after is =
    All-from_recursion (IsOfCall span input) after.outputs
    (at_some (OfCall span input) (steps kind args key span input kept) after is (steps_of_call kind args key span input kept))
