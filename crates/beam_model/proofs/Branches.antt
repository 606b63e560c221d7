-- Two branches over the same elements: what is poison below the Group of one takes nothing from the Write of the other.
use Rattle.std.proofs.Common.{◌≡◌, ℕ, zero, suc, ◌+◌, ◌/◌, ◌%◌, nat_lt, ℤ, pos, FitsSigned, w64, Bool, true, false, cond, ◌&&◌, min, List, [], ◌∷◌, ◌++◌, map, Some, refl, sym, ap, ap₂, subst, ◌∙◌, append-nil, arith}
use Rattle.std.specs.Prelude.{codes, slice_get, unwrap_or}
use Rattle.std.specs.Option.{option_map}
use Rattle.std.specs.List.{AllByRecursion, filter}
use Rattle.std.specs.List.Sorted.{IsSorted}
use Rattle.std.specs.Ordering.{is_lt, nat_cmp, int_eq}
use Rattle.std.specs.Cmp.Lexicographic.{slice_cmp}
use Rattle.std.specs.Str.{bytes_eq}
use Rattle.std.proofs.lemmas.Bool.{cond-false, false≢true}
use Rattle.std.proofs.lemmas.Int.{ints}
use Rattle.std.proofs.lemmas.List.Elements.{All-nil, All-cons, All-from_recursion}
use Rattle.beam_values.specs.Bags.{IsSameBag}
use Rattle.beam_values.specs.Grouping.{key_of, part_of, is_in_cell, pane_with, IsPlainPane, IsPlainGrouping}
use Rattle.beam_values.specs.Intervals.{Interval}
use Rattle.beam_values.specs.Nodes.{strategy_of, is_stateful_kind}
use Rattle.beam_values.specs.Orders.{value_cmp}
use Rattle.beam_values.specs.Sessions.{IsNonEmpty}
use Rattle.beam_values.specs.Spelling.{groups, varint, two's_complement, spelling_step, spelling}
use Rattle.beam_values.specs.Storable.{IsStorable}
use Rattle.beam_values.specs.declared.arrival.Arrival.{Arrival}
use Rattle.beam_values.specs.declared.element.Element.{Element}
use Rattle.beam_values.specs.declared.element.Timing.TheVariants.{Unknown}
use Rattle.beam_values.specs.declared.plan.Args.TheVariants.{Nothing}
use Rattle.beam_values.specs.declared.plan.Estimator.TheVariants as estimator
use Rattle.beam_values.specs.declared.plan.FnKind.TheVariants.{KeyField, FieldInt, SumSeq}
use Rattle.beam_values.specs.declared.plan.Mode.TheVariants.{Discarding}
use Rattle.beam_values.specs.declared.plan.Node.{Node}
use Rattle.beam_values.specs.declared.plan.NodeKind.{NodeKind}
use Rattle.beam_values.specs.declared.plan.NodeKind.TheVariants.{Source, ParDo, WindowInto, Group, Write}
use Rattle.beam_values.specs.declared.plan.Plan.{Plan}
use Rattle.beam_values.specs.declared.plan.SourceKind.TheVariants.{TimedLines}
use Rattle.beam_values.specs.declared.plan.Strategy.TheVariants.{Fixed}
use Rattle.beam_values.specs.declared.plan.Trigger.{Trigger}
use Rattle.beam_values.specs.declared.value.Value.{Value}
use Rattle.beam_values.specs.declared.value.Value.TheOpen as layer
use Rattle.beam_values.specs.declared.value.Value.TheFolds.{fold-roll-Value}
use Rattle.beam_values.specs.declared.value.Value.TheVariants.{rolls-Int, rolls-Blob, rolls-Pair, rolls-Seq}
use Rattle.beam_values.specs.declared.value.Value.TheViews.{out-roll-Value}
use Rattle.beam_values.proofs.Bags.{bag_refl, bag_from_same, bag_swap, bag_trans}
use Rattle.beam_values.proofs.Spreads.{spread-empty}
use Rattle.beam_values.proofs.Storable.{Int-fits, Blob-fits, Pair-fits, Seq-fits}
use Rattle.beam_model.specs.Chains.{Output, Arrives, PoisonAt, chain}
use Rattle.beam_model.specs.Flow.{elements_at}
use Rattle.beam_model.specs.Plain.{plain_flow, is_met, IsGroupAbove, IsGroupedBy, IsPlainRun, IsPlainAt}
use Rattle.beam_model.specs.Plans.{node, default_trigger}
use Rattle.beam_model.specs.Positions.{SourceItem}
use Rattle.beam_model.specs.Spread.{outputs_at, spread_range, spread_all}
use Rattle.beam_model.specs.Values.{int, blob, pair, seq}
use Rattle.beam_model.proofs.Positions.{spread_steps}

-- ---- the pipeline and its file

abbrev early_trigger : Trigger
early_trigger = record { early = Some 1; late = 1; lateness = pos 0; mode = Discarding; early_bars = []; late_bars = [] }

-- whole numbers by keys in windows of a minute: a Group and its Write; and a Group with early panes, whose numbers are added up and written
abbrev branched : Plan
branched = record {
  version = 1;
  nodes = node (Source TimedLines Nothing (codes "numbers" ∷ []) estimator.None) []
      ∷ node (ParDo KeyField Nothing) (0 ∷ [])
      ∷ node (ParDo FieldInt Nothing) (1 ∷ [])
      ∷ node (WindowInto (Fixed (pos 60000))) (2 ∷ [])
      ∷ node (Group default_trigger) (3 ∷ [])
      ∷ node (Write (codes "panes")) (4 ∷ [])
      ∷ node (Group early_trigger) (3 ∷ [])
      ∷ node (ParDo SumSeq Nothing) (6 ∷ [])
      ∷ node (Write (codes "sums")) (7 ∷ [])
      ∷ [];
}

-- a line of a time, the key `a` and a number, with TABs between
abbrev line : List ℕ → List ℕ → List ℕ
line time number = time ++ 9 ∷ 97 ∷ 9 ∷ (number ++ 10 ∷ [])

-- the greatest number of 64 bits at 0, and 1 at 1
abbrev numbers : SourceItem
numbers = record {
  node = 0;
  item = 0;
  work = TimedLines;
  args = Nothing;
  file = line (codes "0") (codes "9223372036854775807") ++ line (codes "1") (codes "1");
  left_out = [];
}

-- ---- what comes of it

abbrev minute : Interval
minute = record { start = pos 0; end = pos 60000 }

abbrev greatest : Value
greatest = int (pos 9223372036854775807)

abbrev one : Value
one = int (pos 1)

abbrev key : Value
key = blob (97 ∷ [])

abbrev numbered : Value → ℤ → Element
numbered number time = record { value = pair key number; time = time; span = minute; pane = record { timing = Unknown; index = 0 } }

abbrev first : Element
first = numbered greatest (pos 0)

abbrev second : Element
second = numbered one (pos 1)

abbrev both : Element
both = pane_with key minute (one ∷ greatest ∷ [])

abbrev at : ℕ → Element → Arrival
at node e = record { node = node; element = e }

first_outputs : outputs_at branched numbers 0 ≡ Arrives (at 4 first) ∷ Arrives (at 6 first) ∷ []
first_outputs = simp out-roll-Value refl

second_outputs : outputs_at branched numbers 24 ≡ Arrives (at 4 second) ∷ Arrives (at 6 second) ∷ []
second_outputs = simp out-roll-Value refl

-- all positions, one line after the other
spread_is : spread_all branched (numbers ∷ []) ≡ Arrives (at 4 first) ∷ Arrives (at 6 first) ∷ Arrives (at 4 second) ∷ Arrives (at 6 second) ∷ []
spread_is =
    append-nil (spread_range branched numbers 0 30)
    ∙ spread_steps branched numbers 0 30 (omega arith)
    ∙ ap₂ (λ (now later : List Output). now ++ later) first_outputs
    (spread_steps branched numbers 24 30 (omega arith)
    ∙ ap₂ (λ (now later : List Output). now ++ later) second_outputs (spread-empty (outputs_at branched numbers) 30 30 (omega arith)))

abbrev arrivals : List Arrival
arrivals = at 4 first ∷ at 4 second ∷ at 5 both ∷ []

abbrev panes : List Arrival
panes = at 4 both ∷ []

clean : IsSameBag (filter (is_met branched 5) (plain_flow branched (numbers ∷ []) panes)) (map Arrives arrivals)
clean =
    bag_from_same (filter (is_met branched 5) (plain_flow branched (numbers ∷ []) panes)) (map Arrives arrivals)
    (ap (λ (outputs : List Output). filter (is_met branched 5) (outputs ++ (chain branched 4 both ++ []))) spread_is)

-- ---- the pane of the key

spelled_int : (n : ℤ) → spelling (int n) ≡ 1 ∷ varint (two's_complement n)
spelled_int n = fold-roll-Value (List ℕ) spelling_step (layer.Int n)

long_varint : (n : ℕ) → nat_lt n 128 ≡ false → varint n ≡ (128 + n % 128) ∷ groups n (n / 128)
unfolding groups
long_varint n long = cond-false (nat_lt n 128) (n ∷ []) ((128 + n % 128) ∷ groups n (n / 128)) long

short_varint : varint 1 ≡ 1 ∷ []
unfolding groups
short_varint = refl

not_descending : is_lt (value_cmp greatest one) ≡ false
not_descending =
    ap₂ (λ (a b : List ℕ). is_lt (slice_cmp nat_cmp a b))
    (spelled_int (pos 9223372036854775807) ∙ ap (λ (bytes : List ℕ). 1 ∷ bytes) (long_varint 9223372036854775807 refl))
    (spelled_int (pos 1) ∙ ap (λ (bytes : List ℕ). 1 ∷ bytes) short_varint)

sorted_pair : (v w : Value) → is_lt (value_cmp w v) ≡ false → IsSorted value_cmp (v ∷ w ∷ [])
sorted_pair v w up zero d from within = up
sorted_pair v w up (suc k) d from within = absurd (omega arith)

in_one_cell : map part_of (filter (is_in_cell (key_of both) both.span) (first ∷ second ∷ [])) ≡ greatest ∷ one ∷ []
unfolding groups
in_one_cell = simp (out-roll-Value, fold-roll-Value) refl

plain_pane : IsPlainPane (first ∷ second ∷ []) both
plain_pane = record {
  parts = one ∷ greatest ∷ [];
  holds = simp out-roll-Value refl;
  ascending = sorted_pair one greatest not_descending;
  all = bag_trans (one ∷ greatest ∷ []) (greatest ∷ one ∷ []) (map part_of (filter (is_in_cell (key_of both) both.span) (first ∷ second ∷ [])))
      (bag_swap (one ∷ []) (greatest ∷ []))
      (bag_from_same (greatest ∷ one ∷ []) (map part_of (filter (is_in_cell (key_of both) both.span) (first ∷ second ∷ []))) (sym in_one_cell));
}

grouping : IsPlainGrouping (first ∷ second ∷ []) (both ∷ [])
grouping = record {
  each = All-cons (IsPlainPane (first ∷ second ∷ [])) both [] plain_pane (All-nil (IsPlainPane (first ∷ second ∷ [])));
  once = λ k span. simp out-roll-Value (by_test (bytes_eq (spelling key) (spelling k) && int_eq (pos 0) span.start && int_eq (pos 60000) span.end));
}
  where
    by_test : (own : Bool) → 0 + cond {A = ℕ} own 1 0 ≡ min 1 ((0 + cond {A = ℕ} own 1 0) + cond {A = ℕ} own 1 0)
    by_test true = refl
    by_test false = refl

grouped : (node : ℕ) → IsGroupAbove branched 5 node → IsGroupedBy (strategy_of branched node) (elements_at node arrivals) (elements_at node panes)
grouped zero group = absurd (false≢true group.0)
grouped (suc zero) group = absurd (false≢true group.0)
grouped (suc (suc zero)) group = absurd (false≢true group.0)
grouped (suc (suc (suc zero))) group = absurd (false≢true group.0)
grouped (suc (suc (suc (suc zero)))) group = grouping
grouped (suc (suc (suc (suc (suc zero))))) group = absurd (false≢true group.0)
grouped (suc (suc (suc (suc (suc (suc zero)))))) group = absurd (false≢true group.1)
grouped (suc (suc (suc (suc (suc (suc (suc zero))))))) group = absurd (false≢true group.0)
grouped (suc (suc (suc (suc (suc (suc (suc (suc zero)))))))) group = absurd (false≢true group.0)
grouped (suc (suc (suc (suc (suc (suc (suc (suc (suc node))))))))) group = absurd (false≢true group.0)

-- ---- what a program can hold

int_storable : (n : ℤ) → FitsSigned w64 n → IsStorable (int n)
int_storable n fits = subst IsStorable (sym (rolls-Int n)) (Int-fits n fits)

blob_storable : (bytes : List ℕ) → IsStorable (blob bytes)
blob_storable bytes = subst IsStorable (sym (rolls-Blob bytes)) (Blob-fits bytes)

pair_storable : (k part : Value) → IsStorable k → IsStorable part → IsStorable (pair k part)
pair_storable k part first second = subst IsStorable (sym (rolls-Pair k part)) (Pair-fits k part first second)

seq_storable : (parts : List Value) → AllByRecursion IsStorable parts → IsStorable (seq parts)
seq_storable parts each = subst IsStorable (sym (rolls-Seq parts)) (Seq-fits parts each)

both_storable : IsStorable both.value
both_storable =
    pair_storable key (seq (one ∷ greatest ∷ [])) (blob_storable (97 ∷ []))
    (seq_storable (one ∷ greatest ∷ []) (int_storable (pos 1) (omega (arith, ints)), (int_storable (pos 9223372036854775807) (omega (arith, ints)), tt)))

some_time : IsNonEmpty minute
some_time = omega (arith, ints)

-- where no node passes a test, none of any number does
none_of_kind : (passes : NodeKind → Bool) (nodes : List Node) → AllByRecursion (λ node. passes node.kind ≡ false) nodes → (n : ℕ)
    → unwrap_or (option_map (λ node. passes node.kind) (slice_get nodes n)) false ≡ false
none_of_kind passes [] none zero = refl
none_of_kind passes [] none (suc n) = refl
none_of_kind passes (node ∷ nodes) none zero = none.0
none_of_kind passes (node ∷ nodes) none (suc n) = none_of_kind passes nodes none.1 n

plain_run : IsPlainRun branched (numbers ∷ []) 5 arrivals panes
plain_run = record {
  ends_here = refl;
  stateless = λ upper above. none_of_kind is_stateful_kind branched.nodes (refl, (refl, (refl, (refl, (refl, (refl, (refl, (refl, (refl, tt))))))))) upper;
  clean = clean;
  from_groups = All-from_recursion (λ pane. IsGroupAbove branched 5 pane.node) panes ((refl, refl), tt);
  grouped = grouped;
  storable = All-from_recursion (λ pane. IsStorable pane.element.value) panes (both_storable, tt);
  held = All-from_recursion (λ arrival. IsNonEmpty arrival.element.span) arrivals (some_time, (some_time, (some_time, tt)));
}

-- The Write of the first branch has what plain grouping brings there ...
a_right_branch_beside_poison_is_admitted : IsPlainAt branched (numbers ∷ []) 5 (both ∷ [])
a_right_branch_beside_poison_is_admitted = (arrivals, panes, plain_run, bag_refl (both ∷ []))

-- ... and the same pane is poison below the Group of the other, since 64 bits don't hold its sum
the_other_branch_is_poison : chain branched 6 both ≡ PoisonAt 7 ∷ []
the_other_branch_is_poison = simp out-roll-Value refl
