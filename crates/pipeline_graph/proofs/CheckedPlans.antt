-- What each node of a checked plan has.
use Rattle.std.proofs.Common.{◌≡◌, ◌≢◌, ℕ, zero, suc, ◌<◌, ◌≤◌, ◌==◌, ◌&&◌, nat_lt, Bool, true, false, cond, List, [], ◌∷◌, ◌++◌, length, get_or, take, Option, Some, None, slice_get, refl, sym, ap, subst, ◌∙◌, append-nil, append_assoc, arith}
use Rattle.std.specs.Prelude.{ℤ, pos, negsuc, ◌-ℤ◌, int_le, IfSome, unwrap_or}
use Rattle.std.specs.Option.{option_map}
use Rattle.std.specs.List.{All, Any, list_all, list_any}
use Rattle.std.proofs.lemmas.Bool.{and_parts, both_ways, leb-true, ltb-true, ltb-false, eqb-true, not-true, false_from_ne_true}
use Rattle.std.proofs.lemmas.List.{length-take-le}
use Rattle.std.proofs.lemmas.List.Folds.{list_any_at, Any-from_list_any}
use Rattle.std.proofs.lemmas.Option.{slice_get_within, slice_get-get_or}
use Rattle.beam_values.specs.Checked.{IsChecked, has_arity, has_input, file_count, are_early_bars, is_count, is_early_allowed, is_estimator_allowed, is_file_name, is_function_allowed, is_kept, is_set, is_source_allowed, is_trigger_allowed, is_write_in, node_refusal, nodes_refusal, write_refusal, is_source_argument, is_state_allowed}
use Rattle.beam_values.specs.Nodes.{is_source_kind, is_stateful_kind, is_write_kind, is_stateful, is_write}
use Rattle.beam_values.specs.Strategies.{IsAllowed, IsLength, greatest_length, is_allowed, is_length}
use Rattle.beam_values.specs.declared.graph_refusal.GraphRefusal.TheVariants.{NoWrite}
use Rattle.beam_values.specs.declared.plan.Args.{Args}
use Rattle.beam_values.specs.declared.plan.Args.TheVariants.{Nothing, Text, Number, Two}
use Rattle.beam_values.specs.declared.plan.FnKind.{FnKind}
use Rattle.beam_values.specs.declared.plan.FnKind.TheVariants.{KeyField, Words, Field, KeepPrefix, FieldInt, Swap, Shift, SumSeq, CountSeq, MaxSeq, Unseq, Values, Tag, JoinList, JoinSingle, JoinLookup}
use Rattle.beam_values.specs.declared.plan.Estimator.{Estimator}
use Rattle.beam_values.specs.declared.plan.Estimator.TheVariants as estimator
use Rattle.beam_values.specs.declared.plan.Node.{Node}
use Rattle.beam_values.specs.declared.plan.NodeKind.{NodeKind}
use Rattle.beam_values.specs.declared.plan.NodeKind.TheVariants.{Source, ParDo, Flatten, WindowInto, Group, Stateful, Write}
use Rattle.beam_values.specs.declared.plan.Plan.{Plan}
use Rattle.beam_values.specs.declared.plan.SourceKind.{SourceKind}
use Rattle.beam_values.specs.declared.plan.SourceKind.TheVariants.{Lines, TimedLines, Count, Made}
use Rattle.beam_values.specs.declared.plan.Strategy.{Strategy}
use Rattle.beam_values.specs.declared.plan.Strategy.TheVariants.{Global, Fixed, Sliding, Sessions, Kept}
use Rattle.beam_values.specs.declared.plan.Trigger.{Trigger}
use Rattle.beam_model.specs.Premises.{IsForward}
use Rattle.pipeline_graph.specs.Rules.{HasFiles, HasInputs, HasLag, HasSettings, IsCount, IsFileName, IsTriggerSet}
use Rattle.pipeline_graph.proofs.BarStairs.{All-from_list_all, bars_set, counted, int_le_true}
use Rattle.pipeline_graph.proofs.Unrefused.{IsUnrefused, file_count-push, neither, set_files, unbroken, unrefused}

-- ---- tests of lists

pub All-from_list_any : {X : Type 0} (p : X → Bool) (xs : List X) → list_any p xs ≡ false → All (λ x. p x ≡ false) xs
All-from_list_any p xs none k d inside = false_from_ne_true _ (λ passes. both_ways _ none (list_any_at p xs k d inside passes))

-- ---- the rules of a plan

pub record IsUnrefusedPlan (plan : Plan) : Type 0 where
  pub some : (length plan.nodes == 0) ≡ false
  pub few : nat_lt 64 (length plan.nodes) ≡ false
  pub nodes : nodes_refusal [] plan.nodes ≡ None
  pub writes : write_refusal plan.nodes ≡ None

pub unrefused_plan : (plan : Plan) → IsChecked plan → IsUnrefusedPlan plan
unrefused_plan plan checked =
    let empty = unbroken (length plan.nodes == 0) _ _ checked.unrefused in
    let many = unbroken (nat_lt 64 (length plan.nodes)) _ _ empty.1 in
    let rest = neither (nodes_refusal [] plan.nodes) (write_refusal plan.nodes) many.1 in
    record { some = empty.0; few = many.0; nodes = rest.0; writes = rest.1 }

unrefused_at : (before nodes : List Node) → nodes_refusal before nodes ≡ None → (k : ℕ) (node : Node) → slice_get nodes k ≡ Some node
    → node_refusal (before ++ take k nodes) node ≡ None
unrefused_at before [] none k node here = absurd cc
unrefused_at before (first ∷ later) none zero node here =
    let parts = neither (node_refusal before first) (nodes_refusal (before ++ first ∷ []) later) none in
    let same : first ≡ node = cc in
    subst (λ (l : List Node). node_refusal l node ≡ None) (sym (append-nil before)) (subst (λ (it : Node). node_refusal before it ≡ None) same parts.0)
unrefused_at before (first ∷ later) none (suc k) node here =
    let parts = neither (node_refusal before first) (nodes_refusal (before ++ first ∷ []) later) none in
    subst (λ (l : List Node). node_refusal l node ≡ None) (append_assoc before (first ∷ []) (take k later)) (unrefused_at (before ++ first ∷ []) later parts.1 k node here)

-- no rule refuses a node after those before it
pub checked_at : (plan : Plan) → IsChecked plan → (n : ℕ) (node : Node) → slice_get plan.nodes n ≡ Some node → IsUnrefused (take n plan.nodes) node
checked_at plan checked n node here = unrefused (take n plan.nodes) node (unrefused_at [] plan.nodes (unrefused_plan plan checked).nodes n node here)

pub length-before : (nodes : List Node) (n : ℕ) (node : Node) → slice_get nodes n ≡ Some node → length (take n nodes) ≡ n
length-before nodes n node here = let within : n < length nodes = slice_get_within nodes n node here in length-take-le n nodes (omega arith)

-- ---- the nodes of a plan

pub few_nodes : (plan : Plan) → IsChecked plan → (1 ≤ length plan.nodes) × (length plan.nodes ≤ 64)
few_nodes plan checked =
    let rules = unrefused_plan plan checked in
    (some_nodes (length plan.nodes) rules.some, leb-false' (length plan.nodes) rules.few)
  where
    some_nodes : (n : ℕ) → (n == 0) ≡ false → 1 ≤ n
    some_nodes zero none = absurd cc
    some_nodes (suc n) none = omega arith

    leb-false' : (n : ℕ) → nat_lt 64 n ≡ false → n ≤ 64
    leb-false' n few = ltb-false 64 n few

pub some_write : (plan : Plan) → IsChecked plan → Any (λ node. is_write_kind node.kind ≡ true) plan.nodes
some_write plan checked = Any-from_list_any (λ node. is_write_kind node.kind) plan.nodes (by_test _ (unrefused_plan plan checked).writes)
  where
    by_test : (b : Bool) → cond b None (Some NoWrite) ≡ None → b ≡ true
    by_test true none = refl
    by_test false none = absurd cc

-- ---- inputs

pub inputs_lower : (plan : Plan) (n : ℕ) (node : Node) → IsChecked plan → slice_get plan.nodes n ≡ Some node → All (λ input. input < n) node.inputs
inputs_lower plan n node checked here k d inside =
    let lower = All-from_list_all _ node.inputs (checked_at plan checked n node here).lower k d inside in
    let size : length (take n plan.nodes) ≡ n = length-before plan.nodes n node here in
    let below : get_or node.inputs k d < length (take n plan.nodes) = ltb-true _ _ lower in
    omega arith

-- each input is a node of the plan
pub inputs_within : (plan : Plan) → IsChecked plan → All (λ node. All (λ input. input < length plan.nodes) node.inputs) plan.nodes
inputs_within plan checked n d inside k e within =
    let lower = inputs_lower plan n (get_or plan.nodes n d) checked (slice_get-get_or plan.nodes n d inside) k e within in
    omega (arith, lower)

slice_get_before : {X : Type 0} (xs : List X) (n k : ℕ) → k < n → slice_get (take n xs) k ≡ slice_get xs k
slice_get_before [] zero k before = refl
slice_get_before [] (suc n) k before = refl
slice_get_before (x ∷ xs) zero k before = absurd (omega arith)
slice_get_before (x ∷ xs) (suc n) zero before = refl
slice_get_before (x ∷ xs) (suc n) (suc k) before = slice_get_before xs n k (omega arith)

pub inputs_no_writes : (plan : Plan) (n : ℕ) (node : Node) → IsChecked plan → slice_get plan.nodes n ≡ Some node → All (λ input. is_write plan input ≡ false) node.inputs
inputs_no_writes plan n node checked here k d inside =
    let lower = inputs_lower plan n node checked here k d inside in
    let none = All-from_list_any (is_write_in (take n plan.nodes)) node.inputs (checked_at plan checked n node here).no_write k d inside in
    sym (ap (λ (o : Option Node). unwrap_or (option_map (λ it. is_write_kind it.kind) o) false) (slice_get_before plan.nodes n (get_or node.inputs k d) lower)) ∙ none

-- ---- the number of inputs

inputs_counted : (kind : NodeKind) (inputs : List ℕ) → (is_source_kind kind && has_input inputs) ≡ false → has_arity kind inputs ≡ true → HasInputs kind (length inputs)
inputs_counted (Source work args files estimator) [] none arity = refl
inputs_counted (Source work args files estimator) (input ∷ inputs) none arity = absurd cc
inputs_counted Flatten inputs none arity = let parts = and_parts _ _ arity in (leb-true _ _ parts.0, leb-true _ _ parts.1)
inputs_counted (ParDo work args) inputs none arity = eqb-true _ _ arity
inputs_counted (WindowInto strategy) inputs none arity = eqb-true _ _ arity
inputs_counted (Group trigger) inputs none arity = eqb-true _ _ arity
inputs_counted (Stateful work args log) inputs none arity = eqb-true _ _ arity
inputs_counted (Write label) inputs none arity = eqb-true _ _ arity

pub counted_inputs : (plan : Plan) (n : ℕ) (node : Node) → IsChecked plan → slice_get plan.nodes n ≡ Some node → HasInputs node.kind (length node.inputs)
counted_inputs plan n node checked here = let rules = checked_at plan checked n node here in inputs_counted node.kind node.inputs rules.no_input_of_a_source rules.arity

-- ---- settings

allowed_length : (ms : ℤ) → is_length ms ≡ true → IsLength ms
allowed_length ms test = let parts = and_parts _ _ test in (int_le_true _ _ parts.0, int_le_true _ _ parts.1)

pub allowed_strategy : (strategy : Strategy) → is_allowed strategy ≡ true → IsAllowed strategy
allowed_strategy Global test = tt
allowed_strategy (Fixed size) test = allowed_length size test
allowed_strategy (Sliding size period) test =
    let parts = and_parts (is_length size && is_length period) _ test in
    let lengths = and_parts (is_length size) (is_length period) parts.0 in
    (allowed_length size lengths.0, allowed_length period lengths.1, leb-true _ _ parts.1)
allowed_strategy (Sessions gap) test = allowed_length gap test
allowed_strategy Kept test = tt

pub not_kept : (strategy : Strategy) → is_kept strategy ≡ false → strategy ≢ Kept
not_kept strategy test same = both_ways _ test (ap is_kept same)

lag_set : (estimator : Estimator) → is_estimator_allowed estimator ≡ true → HasLag estimator
lag_set estimator.None test = tt
lag_set estimator.Monotonic test = tt
lag_set (estimator.Lag delay) test = let parts = and_parts _ _ test in (int_le_true _ _ parts.0, int_le_true _ _ parts.1)
lag_set estimator.Declared test = tt

early_set : (early : Option ℕ) → is_early_allowed early ≡ true → IfSome early IsCount
early_set None test = tt
early_set (Some count) test = counted count test

trigger_set : (trigger : Trigger) → is_trigger_allowed trigger ≡ true → IsTriggerSet trigger
trigger_set trigger test =
    let late_bars = and_parts (is_early_allowed trigger.early && is_count trigger.late && int_le (pos 0) trigger.lateness && int_le trigger.lateness greatest_length && are_early_bars trigger.early_bars) _ test in
    let early_bars = and_parts (is_early_allowed trigger.early && is_count trigger.late && int_le (pos 0) trigger.lateness && int_le trigger.lateness greatest_length) _ late_bars.0 in
    let most = and_parts (is_early_allowed trigger.early && is_count trigger.late && int_le (pos 0) trigger.lateness) _ early_bars.0 in
    let least = and_parts (is_early_allowed trigger.early && is_count trigger.late) _ most.0 in
    let counts = and_parts (is_early_allowed trigger.early) (is_count trigger.late) least.0 in
    record {
      early = early_set trigger.early counts.0;
      late = counted trigger.late counts.1;
      lateness = (int_le_true _ _ least.1, int_le_true _ _ most.1);
      early_bars = bars_set (pos 0 -ℤ greatest_length) (negsuc 0) trigger.early_bars early_bars.1;
      late_bars = bars_set (pos 0) greatest_length trigger.late_bars late_bars.1;
    }

file_names : (files : List (List ℕ)) → list_all is_file_name files ≡ true → All IsFileName files
file_names files test k d inside = let parts = and_parts _ _ (All-from_list_all is_file_name files test k d inside) in (leb-true _ _ parts.0, leb-true _ _ parts.1)

source_set : (earlier : ℕ) (work : SourceKind) (args : Args) (files : List (List ℕ)) → is_source_allowed earlier work args files ≡ true
    → (is_source_argument work args ≡ true) × HasFiles work files
source_set earlier Lines args files test =
    let parts = and_parts _ _ test in
    let names = and_parts _ _ (and_parts _ _ parts.1).0 in
    (parts.0, (leb-true _ _ names.0, file_names files names.1))
source_set earlier TimedLines args files test =
    let parts = and_parts _ _ test in
    let names = and_parts _ _ (and_parts _ _ parts.1).0 in
    (parts.0, (leb-true _ _ names.0, file_names files names.1))
source_set earlier Count args [] test = ((and_parts _ _ test).0, refl)
source_set earlier Count args (file ∷ files) test = absurd (both_ways _ refl (and_parts _ _ test).1)
source_set earlier Made args [] test = ((and_parts _ _ test).0, refl)
source_set earlier Made args (file ∷ files) test = absurd (both_ways _ refl (and_parts _ _ test).1)

pub settings : (before : List Node) (kind : NodeKind) (inputs : List ℕ) → is_set before kind inputs ≡ true → HasSettings kind
settings before (Source work args files estimator) inputs test =
    let parts = and_parts _ _ test in
    let source = source_set (file_count before) work args files parts.0 in
    (source.0, source.1, lag_set estimator parts.1)
settings before (ParDo work args) inputs test = test
settings before Flatten inputs test = tt
settings before (WindowInto strategy) inputs test = let parts = and_parts _ _ test in (allowed_strategy strategy parts.0, not_kept strategy (not-true _ parts.1))
settings before (Group trigger) inputs test = trigger_set trigger test
settings before (Stateful work args log) inputs test = (and_parts (is_state_allowed work args) _ test).0
settings before (Write label) inputs test = tt

pub node_settings : (plan : Plan) (n : ℕ) (node : Node) → IsChecked plan → slice_get plan.nodes n ≡ Some node → HasSettings node.kind
node_settings plan n node checked here = settings (take n plan.nodes) node.kind node.inputs (checked_at plan checked n node here).settings

-- a shift that is allowed goes forward
pub goes_forward : (work : FnKind) (args : Args) → is_function_allowed work args ≡ true → IsForward work args
goes_forward Shift (Number n) test = int_le_true _ _ (and_parts _ _ test).0
goes_forward Shift Nothing test = absurd cc
goes_forward Shift (Text text) test = absurd cc
goes_forward Shift (Two first second) test = absurd cc
goes_forward KeyField args test = tt
goes_forward Words args test = tt
goes_forward Field args test = tt
goes_forward KeepPrefix args test = tt
goes_forward FieldInt args test = tt
goes_forward Swap args test = tt
goes_forward SumSeq args test = tt
goes_forward CountSeq args test = tt
goes_forward MaxSeq args test = tt
goes_forward Unseq args test = tt
goes_forward Values args test = tt
goes_forward Tag args test = tt
goes_forward JoinList args test = tt
goes_forward JoinSingle args test = tt
goes_forward JoinLookup args test = tt

-- ---- files

files_counted : (before nodes : List Node) → nodes_refusal before nodes ≡ None → file_count before ≤ 256 → file_count (before ++ nodes) ≤ 256
files_counted before [] none few = subst (λ (l : List Node). file_count l ≤ 256) (sym (append-nil before)) few
files_counted before (node ∷ later) none few =
    let parts = neither (node_refusal before node) (nodes_refusal (before ++ node ∷ []) later) none in
    let more : file_count (before ++ node ∷ []) ≤ 256 = omega (arith, file_count-push before node, set_files before node.kind node.inputs few (unrefused before node parts.0).settings) in
    subst (λ (l : List Node). file_count l ≤ 256) (append_assoc before (node ∷ []) later) (files_counted (before ++ node ∷ []) later parts.1 more)

pub few_files_together : (plan : Plan) → IsChecked plan → file_count plan.nodes ≤ 256
few_files_together plan checked = files_counted [] plan.nodes (unrefused_plan plan checked).nodes (omega arith)
