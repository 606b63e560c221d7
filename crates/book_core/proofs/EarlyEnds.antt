-- Where the files are told, own windows end early: none after a window of the greatest time.
use Rattle.std.proofs.Common.{◌≡◌, ℕ, ◌+◌, ℤ, Bool, true, false, cond, List, [], ◌∷◌, map, drop, get_or, sym, ap, subst, arith}
use Rattle.std.specs.Prelude.{Option, Some, None, ◌==◌, ◌≤ℤ◌, ◌+ℤ◌, slice_get}
use Rattle.std.specs.List.{All, AllByRecursion, flat_map}
use Rattle.std.specs.Option.{IfSome}
use Rattle.std.proofs.lemmas.Int.{ints, clamps}
use Rattle.std.proofs.lemmas.Option.{slice_get-get_or}
use Rattle.std.proofs.lemmas.List.Elements.{All-nil, All-cons, All-head, All-tail, All-append, All-weaker, All-drop}
use Rattle.beam_values.specs.Checked.{is_source_argument}
use Rattle.beam_values.specs.Intervals.{Interval}
use Rattle.beam_values.specs.Strategies.{IsAllowed}
use Rattle.beam_values.specs.Times.{greatest_time}
use Rattle.beam_values.specs.Windows.{IsWindow, windows_of}
use Rattle.beam_values.specs.declared.element.Element.{Element}
use Rattle.beam_values.specs.declared.file_text.FileText.{FileText}
use Rattle.beam_values.specs.declared.plan.Args.{Args}
use Rattle.beam_values.specs.declared.plan.FnKind.{FnKind}
use Rattle.beam_values.specs.declared.plan.Node.{Node}
use Rattle.beam_values.specs.declared.plan.NodeKind.{NodeKind}
use Rattle.beam_values.specs.declared.plan.NodeKind.TheVariants.{Source, ParDo, Flatten, WindowInto, Group, Stateful, Write}
use Rattle.beam_values.specs.declared.plan.Plan.{Plan}
use Rattle.beam_values.specs.declared.plan.SourceKind.{SourceKind}
use Rattle.beam_values.specs.declared.plan.SourceKind.TheVariants.{Lines, TimedLines, Count, Made}
use Rattle.beam_values.specs.declared.plan.Strategy.{Strategy}
use Rattle.beam_values.specs.declared.plan.Strategy.TheVariants as strategy
use Rattle.beam_values.specs.declared.cell.Pane.{Pane}
use Rattle.beam_model.specs.Chains.{Output, Arrives, PoisonAt, carried, through, chain_from, chain}
use Rattle.beam_model.specs.Functions.{emits}
use Rattle.beam_model.specs.Positions.{Emission, Emits, Poison, SourceItem, TimedValue, emission, file_item, items, items_of_kind, items_of_source}
use Rattle.beam_model.specs.Spread.{emission_outputs, from_source, is_left_out, outputs_at}
use Rattle.beam_model.specs.Flow.{batch_outputs}
use Rattle.pipeline_graph.specs.Rules.{HasSettings}
use Rattle.book_core.specs.Facts.{IsEarly, greatest_end}
use Rattle.book_core.proofs.EarlyTimes.{IsEarlyEmission, emission_early, items_have}
use Rattle.book_core.proofs.Gaps.{emits_given}

-- ---- elements that are early

abbrev pub IsEarlyOutput : Output → Type 0
IsEarlyOutput (Arrives arrival) = IsEarly arrival.element
IsEarlyOutput (PoisonAt node) = Unit {0}

emits_early : (e : Element) → IsEarly e → (work : FnKind) (args : Args) → IfSome (emits work args e) (AllByRecursion IsEarly)
emits_early e early work args = emits_given e IsEarly early (λ v. early) (λ delay. (omega (arith, ints, clamps), early.1)) work args

-- the windows of a time
window_early : (s : Strategy) (time : ℤ) (span : Interval) → IsAllowed s → time ≤ℤ greatest_time → IsWindow s time span → span.end ≤ℤ greatest_end
window_early strategy.Global time span allowed low is = subst (λ (v : Interval). v.end ≤ℤ greatest_end) (sym is) (omega (arith, ints))
window_early (strategy.Fixed size) time span allowed low is =
    let end : span.end ≡ span.start +ℤ size = ap (λ (v : Interval). v.end) is.1 in
    let holds = is.0 in
    let long = allowed.1 in
    omega (arith, ints, end, holds, long, low)
window_early (strategy.Sliding size period) time span allowed low is =
    let end : span.end ≡ span.start +ℤ size = ap (λ (v : Interval). v.end) is.1 in
    let holds = is.0 in
    let long = allowed.0.1 in
    omega (arith, ints, end, holds, long, low)
window_early (strategy.Sessions gap) time span allowed low is =
    let end : span.end ≡ time +ℤ gap = ap (λ (v : Interval). v.end) is in
    let long = allowed.1 in
    omega (arith, ints, end, long, low)
window_early strategy.Kept time span allowed low is = absurd is

-- windows are of their strategy's kind
abbrev pub WindowsOfKind : Type 0
WindowsOfKind = (s : Strategy) (time : ℤ) → IsAllowed s → All (IsWindow s time) (windows_of s time)

module _ (windows : WindowsOfKind) where
  elements_early : (onward : Element → List Output) → ((x : Element) → IsEarly x → All IsEarlyOutput (onward x)) → (outputs : List Element) → AllByRecursion IsEarly outputs
      → All IsEarlyOutput (flat_map onward outputs)
  elements_early onward ends [] early = All-nil IsEarlyOutput
  elements_early onward ends (x ∷ xs) early = All-append IsEarlyOutput (onward x) (flat_map onward xs) (ends x early.0) (elements_early onward ends xs early.1)

  carried_early : (n : ℕ) (onward : Element → List Output) → ((x : Element) → IsEarly x → All IsEarlyOutput (onward x)) → (given : Option (List Element)) → IfSome given (AllByRecursion IsEarly)
      → All IsEarlyOutput (carried n onward given)
  carried_early n onward ends None early = All-cons IsEarlyOutput (PoisonAt n) [] tt (All-nil IsEarlyOutput)
  carried_early n onward ends (Some outputs) early = elements_early onward ends outputs early

  spans_early : (e : Element) → IsEarly e → (onward : Element → List Output) → ((x : Element) → IsEarly x → All IsEarlyOutput (onward x)) → (spans : List Interval)
      → All (λ span. span.end ≤ℤ greatest_end) spans → All IsEarlyOutput (flat_map (λ span. onward (record e { span = span })) spans)
  spans_early e early onward ends [] all = All-nil IsEarlyOutput
  spans_early e early onward ends (span ∷ spans) all =
      All-append IsEarlyOutput (onward (record e { span = span })) (flat_map (λ s. onward (record e { span = s })) spans)
      (ends (record e { span = span }) (early.0, All-head (λ (s : Interval). s.end ≤ℤ greatest_end) span spans all))
      (spans_early e early onward ends spans (All-tail (λ (s : Interval). s.end ≤ℤ greatest_end) span spans all))

  arrived_early : (n : ℕ) (e : Element) → IsEarly e → All IsEarlyOutput (Arrives (record { node = n; element = e }) ∷ [])
  arrived_early n e early = All-cons IsEarlyOutput (Arrives (record { node = n; element = e })) [] early (All-nil IsEarlyOutput)

  through_early : (n : ℕ) (kind : NodeKind) → HasSettings kind → (e : Element) → IsEarly e → (onward : Element → List Output) → ((x : Element) → IsEarly x → All IsEarlyOutput (onward x))
      → All IsEarlyOutput (through n kind onward e)
  through_early n (Source work args files estimator) set e early onward ends = All-nil IsEarlyOutput
  through_early n (ParDo work args) set e early onward ends = carried_early n onward ends (emits work args e) (emits_early e early work args)
  through_early n Flatten set e early onward ends = ends e early
  through_early n (WindowInto s) set e early onward ends =
      spans_early e early onward ends (windows_of s e.time)
      (All-weaker (IsWindow s e.time) (λ span. span.end ≤ℤ greatest_end) (λ span is. window_early s e.time span set.0 early.0 is) (windows_of s e.time) (windows s e.time set.0))
  through_early n (Group trigger) set e early onward ends = arrived_early n e early
  through_early n (Stateful work args log) set e early onward ends = arrived_early n e early
  through_early n (Write label) set e early onward ends = arrived_early n e early

  taken_early : (from : ℕ) (outputs : List Output) (inputs : List ℕ) → All IsEarlyOutput outputs → All IsEarlyOutput (flat_map (λ input. cond (input == from) outputs []) inputs)
  taken_early from outputs [] all = All-nil IsEarlyOutput
  taken_early from outputs (input ∷ inputs) all =
      All-append IsEarlyOutput (cond (input == from) outputs []) (flat_map (λ i. cond (i == from) outputs []) inputs) (by (input == from)) (taken_early from outputs inputs all)
    where
      by : (t : Bool) → All IsEarlyOutput (cond t outputs [])
      by true = all
      by false = All-nil IsEarlyOutput

  chain_early : (nodes : List Node) (next : ℕ) → All (λ node. HasSettings node.kind) nodes → (from : ℕ) (e : Element) → IsEarly e → All IsEarlyOutput (chain_from nodes next from e)
  chain_early [] next set from e early = All-nil IsEarlyOutput
  chain_early (node ∷ later) next set from e early =
      let onward : (from : ℕ) (x : Element) → IsEarly x → All IsEarlyOutput (chain_from later (next + 1) from x) = chain_early later (next + 1) (All-tail (λ (n : Node). HasSettings n.kind) node later set) in
      let outputs : List Output = through next node.kind (chain_from later (next + 1) next) e in
      All-append IsEarlyOutput (flat_map (λ input. cond (input == from) outputs []) node.inputs) (chain_from later (next + 1) from e)
      (taken_early from outputs node.inputs
      (through_early next node.kind (All-head (λ (n : Node). HasSettings n.kind) node later set) e early (chain_from later (next + 1) next) (onward next)))
      (onward from e early)

  -- ---- what ranges and batches bring

  module _ (plan : Plan) (settings : (n : ℕ) (node : Node) → slice_get plan.nodes n ≡ Some node → HasSettings node.kind) where
    all_set : All (λ node. HasSettings node.kind) plan.nodes
    all_set k d inside = settings k (get_or plan.nodes k d) (slice_get-get_or plan.nodes k d inside)

    pub outputs_early : (n : ℕ) (e : Element) → IsEarly e → All IsEarlyOutput (chain plan n e)
    outputs_early n e early = chain_early (drop (n + 1) plan.nodes) (n + 1) (All-drop (λ (node : Node). HasSettings node.kind) (n + 1) plan.nodes all_set) n e early

    values_early : (n : ℕ) (values : List TimedValue) → All (λ v. v.time ≤ℤ greatest_time) values → All IsEarlyOutput (flat_map (λ v. chain plan n (from_source v)) values)
    values_early n [] all = All-nil IsEarlyOutput
    values_early n (v ∷ values) all =
        All-append IsEarlyOutput (chain plan n (from_source v)) (flat_map (λ v. chain plan n (from_source v)) values)
        (outputs_early n (from_source v) (All-head (λ (x : TimedValue). x.time ≤ℤ greatest_time) v values all, omega (arith, ints)))
        (values_early n values (All-tail (λ (x : TimedValue). x.time ≤ℤ greatest_time) v values all))

    pub emitted_early : (n : ℕ) (e : Emission) → IsEarlyEmission e → All IsEarlyOutput (emission_outputs plan n e)
    emitted_early n (Emits values declared) all = values_early n values all
    emitted_early n Poison all = All-cons IsEarlyOutput (PoisonAt n) [] tt (All-nil IsEarlyOutput)

    -- an item whose source has its argument
    abbrev IsSet : SourceItem → Type 0
    IsSet item = is_source_argument item.work item.args ≡ true

    position_early : (item : SourceItem) → IsSet item → (p : ℕ) → All IsEarlyOutput (outputs_at plan item p)
    position_early item set p = by (is_left_out item p)
      where
        by : (t : Bool) → All IsEarlyOutput (cond t [] (emission_outputs plan item.node (emission item.work item.args item.file p)))
        by true = All-nil IsEarlyOutput
        by false = emitted_early item.node (emission item.work item.args item.file p) (emission_early item.work item.args item.file p set)

    pub spread_early : (item : SourceItem) → IsSet item → (ps : List ℕ) → All IsEarlyOutput (flat_map (outputs_at plan item) ps)
    spread_early item set [] = All-nil IsEarlyOutput
    spread_early item set (p ∷ ps) = All-append IsEarlyOutput (outputs_at plan item p) (flat_map (outputs_at plan item) ps) (position_early item set p) (spread_early item set ps)

    pub batch_early : (node : ℕ) (panes : List Pane) → All (λ pane. IsEarly pane.element) panes → All IsEarlyOutput (batch_outputs plan node panes)
    batch_early node [] all = All-nil IsEarlyOutput
    batch_early node (pane ∷ panes) all =
        All-append IsEarlyOutput (chain plan node pane.element) (batch_outputs plan node panes)
        (outputs_early node pane.element (All-head (λ (p : Pane). IsEarly p.element) pane panes all)) (batch_early node panes (All-tail (λ (p : Pane). IsEarly p.element) pane panes all))

    files_set : (told : List FileText) (n : ℕ) (work : SourceKind) (args : Args) → is_source_argument work args ≡ true → (names : List (ℕ × List ℕ)) → All IsSet (map (file_item told n work args) names)
    files_set told n work args set [] = All-nil IsSet
    files_set told n work args set (name ∷ names) = All-cons IsSet (file_item told n work args name) (map (file_item told n work args) names) set (files_set told n work args set names)

    source_set : (told : List FileText) (n : ℕ) (work : SourceKind) (args : Args) (names : List (List ℕ)) → is_source_argument work args ≡ true → All IsSet (items_of_source told n work args names)
    source_set told n Lines args names set = files_set told n Lines args set _
    source_set told n TimedLines args names set = files_set told n TimedLines args set _
    source_set told n Count args names set = All-cons IsSet _ [] set (All-nil IsSet)
    source_set told n Made args names set = All-cons IsSet _ [] set (All-nil IsSet)

    kind_set : (told : List FileText) (n : ℕ) (kind : NodeKind) → HasSettings kind → All IsSet (items_of_kind told n kind)
    kind_set told n (Source work args names estimator) set = source_set told n work args names set.0
    kind_set told n (ParDo work args) set = All-nil IsSet
    kind_set told n Flatten set = All-nil IsSet
    kind_set told n (WindowInto s) set = All-nil IsSet
    kind_set told n (Group trigger) set = All-nil IsSet
    kind_set told n (Stateful work args log) set = All-nil IsSet
    kind_set told n (Write label) set = All-nil IsSet

    pub items_set : (told : List FileText) → All IsSet (items told plan)
    items_set told = items_have told plan IsSet (λ n node here. kind_set told n node.kind (settings n node here))
