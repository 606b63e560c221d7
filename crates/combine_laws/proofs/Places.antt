-- Windows that hold some time: what comes of an element whose window does comes in such windows.
use Rattle.std.proofs.Common.{ℕ, ℤ, Bool, true, false, cond, List, [], ◌∷◌, map, Option, Some, None, sym, subst, arith}
use Rattle.std.specs.Prelude.{slice_get}
use Rattle.std.specs.List.{AllByRecursion}
use Rattle.std.specs.Option.{IfSome, option_map, option_and_then}
use Rattle.std.proofs.lemmas.Int.{ints}
use Rattle.std.proofs.lemmas.List.Elements.{recursion_from_All}
use Rattle.beam_values.specs.Intervals.{Interval}
use Rattle.beam_values.specs.Sessions.{IsNonEmpty}
use Rattle.beam_values.specs.Strategies.{IsAllowed}
use Rattle.beam_values.specs.Windows.{IsWindow, global_window, or_zero, windows_of}
use Rattle.beam_values.specs.declared.element.Element.{Element}
use Rattle.beam_values.specs.declared.plan.Args.{Args}
use Rattle.beam_values.specs.declared.plan.FnKind.{FnKind}
use Rattle.beam_values.specs.declared.plan.FnKind.TheVariants.{KeyField, Words, Field, KeepPrefix, FieldInt, Swap, Shift, SumSeq, CountSeq, MaxSeq, Unseq, Values, Tag, JoinList, JoinSingle, JoinLookup}
use Rattle.beam_values.specs.declared.plan.Strategy.{Strategy}
use Rattle.beam_values.specs.declared.plan.Strategy.TheVariants as strategy
use Rattle.beam_values.specs.declared.value.Value.{Value}
use Rattle.beam_model.specs.Functions.{number_arg, text_arg, valued, one, keyed_text, on_part, int_in, sum_in, count_in, greatest_in, from_pair, kept_prefix, joined_values, side_parts, joins, emits}
use Rattle.beam_model.specs.Texts.{words, fields, begins_with}
use Rattle.beam_model.specs.Values.{blob, pair, as_blob, as_pair, as_seq}
use Rattle.windowing.proofs.GivenWindows.{are_windows}
use Rattle.combine_laws.proofs.Lists.{each_map, each_weaker}

abbrev pub IsPlaced : Element → Type 0
IsPlaced e = IsNonEmpty e.span

-- ---- what functions give

module _ (e : Element) (some : IsPlaced e) where
  abbrev ArePlaced : List Element → Type 0
  ArePlaced outputs = AllByRecursion IsPlaced outputs

  if_map : {X : Type 0} (f : X → List Element) → ((x : X) → ArePlaced (f x)) → (found : Option X) → IfSome (option_map f found) ArePlaced
  if_map f placed None = tt
  if_map f placed (Some x) = placed x

  if_then : {X : Type 0} (f : X → Option (List Element)) → ((x : X) → IfSome (f x) ArePlaced) → (found : Option X) → IfSome (option_and_then f found) ArePlaced
  if_then f placed None = tt
  if_then f placed (Some x) = placed x

  each_valued : {X : Type 0} (f : X → Value) (xs : List X) → ArePlaced (map (λ x. valued e (f x)) xs)
  each_valued f xs = each_map IsPlaced (λ x. valued e (f x)) (λ x. some) xs

  part_placed : (change : Value → Option Value) → IfSome (from_pair e (λ keyed. option_map (one e) (on_part change keyed))) ArePlaced
  part_placed change = if_then (λ keyed. option_map (one e) (on_part change keyed)) (λ keyed. if_map (one e) (λ v. (some, tt)) (on_part change keyed)) (as_pair e.value)

  joins_placed : (work : FnKind) → IfSome (joins work e) ArePlaced
  joins_placed work =
      if_then (λ keyed. option_map (map (valued e)) (option_and_then (joined_values work) (side_parts keyed)))
      (λ keyed. if_map (map (valued e)) (λ values. each_map IsPlaced (valued e) (λ v. some) values) (option_and_then (joined_values work) (side_parts keyed))) (as_pair e.value)

  prefix_placed : (prefix : List ℕ) (text : Option (List ℕ)) → ArePlaced (kept_prefix prefix e text)
  prefix_placed prefix None = tt
  prefix_placed prefix (Some text) = by (begins_with prefix text)
    where
      by : (b : Bool) → ArePlaced (cond b (e ∷ []) [])
      by true = (some, tt)
      by false = tt

  pub emits_placed : (work : FnKind) (args : Args) → IfSome (emits work args e) ArePlaced
  emits_placed KeyField args = if_then (λ text. Some (one e (keyed_text text))) (λ text. (some, tt)) (as_blob e.value)
  emits_placed Words args = if_then (λ text. Some (map (λ word. valued e (blob word)) (words text))) (λ text. each_valued blob (words text)) (as_blob e.value)
  emits_placed Field args =
      if_then (λ text. option_map (λ field. one e (blob field)) (slice_get (fields text) (or_zero (number_arg args))))
      (λ text. if_map (λ field. one e (blob field)) (λ field. (some, tt)) (slice_get (fields text) (or_zero (number_arg args)))) (as_blob e.value)
  emits_placed KeepPrefix args = prefix_placed (text_arg args) (as_blob e.value)
  emits_placed FieldInt args = part_placed int_in
  emits_placed Swap args = if_then (λ keyed. Some (one e (pair keyed.part keyed.key))) (λ keyed. (some, tt)) (as_pair e.value)
  emits_placed Shift args = (some, tt)
  emits_placed SumSeq args = part_placed sum_in
  emits_placed CountSeq args = part_placed count_in
  emits_placed MaxSeq args = part_placed greatest_in
  emits_placed Unseq args =
      if_then (λ keyed. option_map (map (λ item. valued e (pair keyed.key item))) (as_seq keyed.part))
      (λ keyed. if_map (map (λ item. valued e (pair keyed.key item))) (λ items. each_valued (pair keyed.key) items) (as_seq keyed.part)) (as_pair e.value)
  emits_placed Values args = if_then (λ keyed. Some (one e keyed.part)) (λ keyed. (some, tt)) (as_pair e.value)
  emits_placed Tag args = (some, tt)
  emits_placed JoinList args = joins_placed JoinList
  emits_placed JoinSingle args = joins_placed JoinSingle
  emits_placed JoinLookup args = joins_placed JoinLookup

-- ---- what windows are given

pub global_placed : IsNonEmpty global_window
global_placed = omega (arith, ints)

window_placed : (s : Strategy) (time : ℤ) → IsAllowed s → (span : Interval) → IsWindow s time span → IsNonEmpty span
window_placed strategy.Global time allowed span is = subst IsNonEmpty (sym is) global_placed
window_placed (strategy.Fixed size) time allowed span is = let low = is.0.0 in let high = is.0.1 in omega (arith, ints, low, high)
window_placed (strategy.Sliding size period) time allowed span is = let low = is.0.0 in let high = is.0.1 in omega (arith, ints, low, high)
window_placed (strategy.Sessions gap) time allowed span is = subst IsNonEmpty (sym is) (let long = allowed.0 in omega (arith, ints, long))
window_placed strategy.Kept time allowed span is = absurd is

pub windows_placed : (s : Strategy) (time : ℤ) → IsAllowed s → AllByRecursion IsNonEmpty (windows_of s time)
windows_placed s time allowed =
    each_weaker (IsWindow s time) IsNonEmpty (λ span is. window_placed s time allowed span is) (windows_of s time)
    (recursion_from_All (IsWindow s time) (windows_of s time) (are_windows s time allowed))
