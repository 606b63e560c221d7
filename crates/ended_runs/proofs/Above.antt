-- What comes of an element that lies above the mark after its node lies above the marks into the barriers at which it ends.
use Rattle.std.proofs.Common.{◌≡◌, ℕ, zero, suc, ◌+◌, ◌<◌, ℤ, Bool, true, false, cond, List, [], ◌∷◌, length, drop, get_or, refl, sym, ap, subst, ◌∙◌, arith}
use Rattle.std.specs.Prelude.{Option, Some, None, Contains, ◌==◌, ◌≤ℤ◌, ◌<ℤ◌, slice_get}
use Rattle.std.specs.List.{All, flat_map}
use Rattle.std.proofs.lemmas.Bool.Decides.{nat_tests}
use Rattle.std.proofs.lemmas.Int.{ints}
use Rattle.std.proofs.lemmas.List.Elements.{All-nil, All-cons, All-head, All-tail, All-append}
use Rattle.beam_values.specs.Checked.{IsChecked, is_function_allowed}
use Rattle.beam_values.specs.Intervals.{Interval}
use Rattle.beam_values.specs.Marks.{AreMarks, marks_at}
use Rattle.beam_values.specs.Nodes.{below_group, is_group_kind, onward_of, strategy_of}
use Rattle.beam_values.specs.Strategies.{IsAllowed}
use Rattle.beam_values.specs.Times.{IsTime, greatest_time, least_time}
use Rattle.beam_values.specs.Windows.{IsWindow, windows_of}
use Rattle.beam_values.specs.declared.element.Element.{Element}
use Rattle.beam_values.specs.declared.marks.StageMarks.{StageMarks}
use Rattle.beam_values.specs.declared.plan.Args.{Args}
use Rattle.beam_values.specs.declared.plan.FnKind.{FnKind}
use Rattle.beam_values.specs.declared.plan.Node.{Node}
use Rattle.beam_values.specs.declared.plan.NodeKind.{NodeKind}
use Rattle.beam_values.specs.declared.plan.NodeKind.TheVariants.{Source, ParDo, Flatten, WindowInto, Group, Stateful, Write}
use Rattle.beam_values.specs.declared.plan.Plan.{Plan}
use Rattle.beam_values.specs.declared.plan.Strategy.{Strategy}
use Rattle.beam_values.specs.declared.plan.Strategy.TheVariants as strategy
use Rattle.beam_model.specs.Chains.{Output, Arrives, PoisonAt, carried, through, chain_from, chain}
use Rattle.beam_model.specs.Functions.{emits}
use Rattle.beam_model.specs.Premises.{IsForward, KeepsPlace}
use Rattle.pipeline_graph.specs.Rules.{HasOwnStrategy, HasSettings, is_window_into_kind}
use Rattle.watermarks.proofs.Rising.{below_hold, below_inputs}
use Rattle.book_core.proofs.Ended.{SettingsOfPlans}
use Rattle.book_core.proofs.CellsAlways.{StrategiesOfPlans}
use Rattle.book_core.proofs.EarlyEnds.{WindowsOfKind}
use Rattle.ended_runs.proofs.Forward.{given_keep}

-- a window of sessions begins no earlier than a mark
abbrev pub StartsAbove : Strategy → ℤ → Interval → Type 0
StartsAbove (strategy.Sessions gap) mark span = mark ≤ℤ span.start
StartsAbove _ mark span = Unit {0}

-- at a time that a mark hasn't passed, in a window that isn't empty and ends later
pub record IsAbove (mark : ℤ) (s : Strategy) (e : Element) : Type 0 where
  pub low : least_time ≤ℤ e.time
  pub high : e.time ≤ℤ greatest_time
  pub time : mark ≤ℤ e.time
  pub ends : mark <ℤ e.span.end
  pub past : least_time <ℤ e.span.end
  pub some : e.span.start <ℤ e.span.end
  pub starts : StartsAbove s mark e.span

-- what is known of all plans and functions, as the laws of the crates below have it
pub record KnownLaws : Type 0 where
  pub windows : WindowsOfKind
  pub settings : SettingsOfPlans
  pub strategies : StrategiesOfPlans
  pub forward : (work : FnKind) (args : Args) → is_function_allowed work args ≡ true → IsForward work args

up : (a b c : ℤ) → a ≤ℤ b → b ≤ℤ c → a ≤ℤ c
up a b c h k = omega (arith, ints)

up_less : (a b c : ℤ) → a ≤ℤ b → b <ℤ c → a <ℤ c
up_less a b c h k = omega (arith, ints)

starts_lower : (s : Strategy) (a b : ℤ) (span : Interval) → a ≤ℤ b → StartsAbove s b span → StartsAbove s a span
starts_lower strategy.Global a b span le starts = tt
starts_lower (strategy.Fixed size) a b span le starts = tt
starts_lower (strategy.Sliding size period) a b span le starts = tt
starts_lower (strategy.Sessions gap) a b span le starts = up a b span.start le starts
starts_lower strategy.Kept a b span le starts = tt

pub higher : (a b : ℤ) (s : Strategy) (e : Element) → a ≤ℤ b → IsAbove b s e → IsAbove a s e
higher a b s e le above = record {
  low = above.low;
  high = above.high;
  time = up a b e.time le above.time;
  ends = up_less a b e.span.end le above.ends;
  past = above.past;
  some = above.some;
  starts = starts_lower s a b e.span le above.starts;
}

renamed : (mark : ℤ) (s t : Strategy) (e : Element) → s ≡ t → IsAbove mark s e → IsAbove mark t e
renamed mark s t e same above = subst (λ (r : Strategy). IsAbove mark r e) same above

output_above : (mark : ℤ) (s : Strategy) (e output : Element) → IsAbove mark s e → KeepsPlace e output → IsAbove mark s output
output_above mark s e output above keeps = record {
  low = up least_time e.time output.time above.low keeps.time;
  high = keeps.bound;
  time = up mark e.time output.time above.time keeps.time;
  ends = subst (λ (v : Interval). mark <ℤ v.end) (sym keeps.span) above.ends;
  past = subst (λ (v : Interval). least_time <ℤ v.end) (sym keeps.span) above.past;
  some = subst (λ (v : Interval). v.start <ℤ v.end) (sym keeps.span) above.some;
  starts = subst (λ (v : Interval). StartsAbove s mark v) (sym keeps.span) above.starts;
}

-- ---- windows

-- a window of a time isn't empty and ends later
window_holds : (s : Strategy) (time : ℤ) (span : Interval) → IsAllowed s → IsTime time → IsWindow s time span → (time <ℤ span.end) × (span.start <ℤ span.end)
window_holds strategy.Global time span allowed is_time is =
    subst (λ (v : Interval). (time <ℤ v.end) × (v.start <ℤ v.end)) (sym is) (let high = is_time.1 in (omega (arith, ints, high), omega (arith, ints)))
window_holds (strategy.Fixed size) time span allowed is_time is = let a = is.0.0 in let b = is.0.1 in (b, omega (arith, ints, a, b))
window_holds (strategy.Sliding size period) time span allowed is_time is = let a = is.0.0 in let b = is.0.1 in (b, omega (arith, ints, a, b))
window_holds (strategy.Sessions gap) time span allowed is_time is =
    subst (λ (v : Interval). (time <ℤ v.end) × (v.start <ℤ v.end)) (sym is) (let long = allowed.0 in (omega (arith, ints, long), omega (arith, ints, long)))
window_holds strategy.Kept time span allowed is_time is = absurd is

starts_at : (s : Strategy) (mark time : ℤ) (span : Interval) → mark ≤ℤ time → IsWindow s time span → StartsAbove s mark span
starts_at strategy.Global mark time span le is = tt
starts_at (strategy.Fixed size) mark time span le is = tt
starts_at (strategy.Sliding size period) mark time span le is = tt
starts_at (strategy.Sessions gap) mark time span le is = subst (λ (v : Interval). mark ≤ℤ v.start) (sym is) le
starts_at strategy.Kept mark time span le is = tt

windowed_above : (mark : ℤ) (s t : Strategy) (e : Element) (span : Interval) → IsAllowed t → IsAbove mark s e → IsWindow t e.time span → IsAbove mark t (record e { span = span })
windowed_above mark s t e span allowed above is =
    let holds = window_holds t e.time span allowed (above.low, above.high) is in
    record {
      low = above.low;
      high = above.high;
      time = above.time;
      ends = up_less mark e.time span.end above.time holds.0;
      past = up_less least_time e.time span.end above.low holds.0;
      some = holds.1;
      starts = starts_at t mark e.time span above.time is;
    }

-- ---- chains

module _ (laws : KnownLaws) (plan : Plan) (checked : IsChecked plan) (hold : ℕ → ℤ) (marks : List StageMarks) (are : AreMarks plan hold marks) where
  abbrev pub IsToCome : Output → Type 0
  IsToCome (Arrives arrival) = IsAbove (marks_at marks arrival.node).mark_in (strategy_of plan arrival.node) arrival.element
  IsToCome (PoisonAt node) = Unit {0}

  -- what a node puts out
  abbrev pub FitsAfter : ℕ → Element → Type 0
  FitsAfter n e = IsAbove (marks_at marks n).mark_out (onward_of plan n) e

  abbrev Onward : ℕ → (Element → List Output) → Type 0
  Onward n onward = (x : Element) → FitsAfter n x → All IsToCome (onward x)

  elements_above : (n : ℕ) (e : Element) (onward : Element → List Output) → Onward n onward → FitsAfter n e → (outputs : List Element) → All (KeepsPlace e) outputs
      → All IsToCome (flat_map onward outputs)
  elements_above n e onward ends fits [] keeps = All-nil IsToCome
  elements_above n e onward ends fits (x ∷ xs) keeps =
      All-append IsToCome (onward x) (flat_map onward xs)
      (ends x (output_above (marks_at marks n).mark_out (onward_of plan n) e x fits (All-head (KeepsPlace e) x xs keeps)))
      (elements_above n e onward ends fits xs (All-tail (KeepsPlace e) x xs keeps))

  carried_above : (n : ℕ) (e : Element) (onward : Element → List Output) → Onward n onward → FitsAfter n e → (given : Option (List Element))
      → ((outputs : List Element) → given ≡ Some outputs → All (KeepsPlace e) outputs) → All IsToCome (carried n onward given)
  carried_above n e onward ends fits None keeps = All-cons IsToCome (PoisonAt n) [] tt (All-nil IsToCome)
  carried_above n e onward ends fits (Some outputs) keeps = elements_above n e onward ends fits outputs (keeps outputs refl)

  windows_above : (n : ℕ) (s t : Strategy) (e : Element) (onward : Element → List Output) → Onward n onward → t ≡ onward_of plan n → IsAllowed t → IsAbove (marks_at marks n).mark_out s e
      → (spans : List Interval) → All (IsWindow t e.time) spans → All IsToCome (flat_map (λ span. onward (record e { span = span })) spans)
  windows_above n s t e onward ends same allowed above [] all = All-nil IsToCome
  windows_above n s t e onward ends same allowed above (span ∷ spans) all =
      All-append IsToCome (onward (record e { span = span })) (flat_map (λ v. onward (record e { span = v })) spans)
      (ends (record e { span = span })
      (renamed (marks_at marks n).mark_out t (onward_of plan n) (record e { span = span }) same
      (windowed_above (marks_at marks n).mark_out s t e span allowed above (All-head (IsWindow t e.time) span spans all))))
      (windows_above n s t e onward ends same allowed above spans (All-tail (IsWindow t e.time) span spans all))

  arrived_above : (n : ℕ) (e : Element) → IsAbove (marks_at marks n).mark_in (strategy_of plan n) e → All IsToCome (Arrives (record { node = n; element = e }) ∷ [])
  arrived_above n e above = All-cons IsToCome (Arrives (record { node = n; element = e })) [] above (All-nil IsToCome)

  through_above : (n : ℕ) (kind : NodeKind) (s : Strategy) (e : Element) (onward : Element → List Output) → Onward n onward → HasSettings kind
      → (marks_at marks n).mark_out ≤ℤ (marks_at marks n).mark_in → IsAbove (marks_at marks n).mark_in s e
      → (is_window_into_kind kind ≡ false → s ≡ strategy_of plan n) → HasOwnStrategy kind (strategy_of plan n)
      → onward_of plan n ≡ cond (is_group_kind kind) (below_group (strategy_of plan n)) (strategy_of plan n)
      → All IsToCome (through n kind onward e)
  through_above n (Source work args files estimator) s e onward ends set less above same own on = All-nil IsToCome
  through_above n (ParDo work args) s e onward ends set less above same own on =
      carried_above n e onward ends
      (renamed (marks_at marks n).mark_out s (onward_of plan n) e (same refl ∙ sym on) (higher (marks_at marks n).mark_out (marks_at marks n).mark_in s e less above))
      (emits work args e) (λ outputs is. given_keep work args e outputs above.high (laws.forward work args set) is)
  through_above n Flatten s e onward ends set less above same own on =
      ends e (renamed (marks_at marks n).mark_out s (onward_of plan n) e (same refl ∙ sym on) (higher (marks_at marks n).mark_out (marks_at marks n).mark_in s e less above))
  through_above n (WindowInto t) s e onward ends set less above same own on =
      windows_above n s t e onward ends (sym (on ∙ own)) set.0 (higher (marks_at marks n).mark_out (marks_at marks n).mark_in s e less above) (windows_of t e.time) (laws.windows t e.time set.0)
  through_above n (Group trigger) s e onward ends set less above same own on = arrived_above n e (renamed (marks_at marks n).mark_in s (strategy_of plan n) e (same refl) above)
  through_above n (Stateful work args log) s e onward ends set less above same own on = arrived_above n e (renamed (marks_at marks n).mark_in s (strategy_of plan n) e (same refl) above)
  through_above n (Write label) s e onward ends set less above same own on = arrived_above n e (renamed (marks_at marks n).mark_in s (strategy_of plan n) e (same refl) above)

  taken_above : (from : ℕ) (outputs : List Output) (inputs : List ℕ) → ((k : ℕ) (d : ℕ) → (inside : k < length inputs) → get_or inputs k d ≡ from → All IsToCome outputs)
      → All IsToCome (flat_map (λ input. cond (input == from) outputs []) inputs)
  taken_above from outputs [] ends = All-nil IsToCome
  taken_above from outputs (input ∷ inputs) ends =
      All-append IsToCome (cond (input == from) outputs []) (flat_map (λ i. cond (i == from) outputs []) inputs)
      (by (input == from) refl) (taken_above from outputs inputs (λ k d inside is. ends (suc k) d (omega (arith, inside)) is))
    where
      by : (t : Bool) → (input == from) ≡ t → All IsToCome (cond t outputs [])
      by true e = let same : input ≡ from = grind (arith, nat_tests) in ends 0 input (omega arith) same
      by false e = All-nil IsToCome

  chain_above : (nodes : List Node) (next : ℕ) → ((k : ℕ) (node : Node) → slice_get nodes k ≡ Some node → slice_get plan.nodes (next + k) ≡ Some node)
      → (from : ℕ) (e : Element) → FitsAfter from e → All IsToCome (chain_from nodes next from e)
  chain_above [] next there from e fits = All-nil IsToCome
  chain_above (node ∷ later) next there from e fits =
      let here : slice_get plan.nodes next ≡ Some node = at_next node (there 0 node refl) in
      let known = laws.strategies plan checked in
      let onward : (from : ℕ) (x : Element) → FitsAfter from x → All IsToCome (chain_from later (next + 1) from x) =
      chain_above later (next + 1) (λ k other at. at_later k other (there (suc k) other at)) in
      let outputs : List Output = through next node.kind (chain_from later (next + 1) next) e in
      All-append IsToCome (flat_map (λ input. cond (input == from) outputs []) node.inputs) (chain_from later (next + 1) from e)
      (taken_above from outputs node.inputs
      (λ k d inside same.
      let among : Contains node.inputs from = (k, inside, get_same node.inputs k d from inside same) in
      through_above next node.kind (onward_of plan from) e (chain_from later (next + 1) next) (onward next) (laws.settings plan next node checked here)
      (below_hold plan hold marks next node are here).0
      (higher (marks_at marks next).mark_in (marks_at marks from).mark_out (onward_of plan from) e (below_inputs plan hold marks next node are here from among) fits)
      (λ other. ap (onward_of plan) (sym same) ∙ known.inputs next node here other k d inside)
      (known.own next node here) (known.onward next node here)))
      (onward from e fits)
    where
      get_same : (xs : List ℕ) (k d from : ℕ) → k < length xs → get_or xs k d ≡ from → get_or xs k from ≡ from
      get_same [] k d from inside e = absurd (omega arith)
      get_same (x ∷ xs) zero d from inside e = e
      get_same (x ∷ xs) (suc k) d from inside e = get_same xs k d from (omega arith) e

      at_next : (node : Node) → slice_get plan.nodes (next + 0) ≡ Some node → slice_get plan.nodes next ≡ Some node
      at_next node e = let same : next + 0 ≡ next = omega arith in subst (λ (n : ℕ). slice_get plan.nodes n ≡ Some node) same e

      at_later : (k : ℕ) (other : Node) → slice_get plan.nodes (next + suc k) ≡ Some other → slice_get plan.nodes ((next + 1) + k) ≡ Some other
      at_later k other e = let same : next + suc k ≡ (next + 1) + k = omega arith in subst (λ (n : ℕ). slice_get plan.nodes n ≡ Some other) same e

  slice_drop : {X : Type 0} (n : ℕ) (xs : List X) (k : ℕ) → slice_get (drop n xs) k ≡ slice_get xs (n + k)
  slice_drop zero xs k = ap (slice_get xs) (omega arith)
  slice_drop (suc n) [] k = refl
  slice_drop (suc n) (x ∷ xs) k =
      let place : suc (n + k) ≡ suc n + k = omega arith in
      slice_drop n xs k ∙ ap (slice_get (x ∷ xs)) place

  pub outputs_above : (n : ℕ) (e : Element) → FitsAfter n e → All IsToCome (chain plan n e)
  outputs_above n e fits = chain_above (drop (n + 1) plan.nodes) (n + 1) (λ k node at. sym (slice_drop (n + 1) plan.nodes k) ∙ at) n e fits
