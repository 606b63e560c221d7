-- What holds of all that the calls of a key job bring: of poison at its node, and of the chains from there of what the calls give.
use Rattle.std.proofs.Common.{◌≡◌, ℕ, true, false, List, [], ◌∷◌, get_or, refl, ap}
use Rattle.std.specs.Prelude.{Option, Some, None, slice_get, unwrap_or}
use Rattle.std.specs.List.{All, flat_map}
use Rattle.std.specs.Option.{IfSome, option_map}
use Rattle.std.proofs.lemmas.List.Elements.{All-nil, All-cons, All-head, All-tail, All-append}
use Rattle.beam_values.specs.Intervals.{Interval}
use Rattle.beam_values.specs.Nodes.{is_stateful, is_stateful_kind}
use Rattle.beam_values.specs.States.{KeptState}
use Rattle.beam_values.specs.declared.element.Element.{Element}
use Rattle.beam_values.specs.declared.log.LogInput.{LogInput}
use Rattle.beam_values.specs.declared.plan.Args.{Args}
use Rattle.beam_values.specs.declared.plan.Node.{Node}
use Rattle.beam_values.specs.declared.plan.NodeKind.{NodeKind}
use Rattle.beam_values.specs.declared.plan.NodeKind.TheVariants.{Source, ParDo, Flatten, WindowInto, Group, Stateful, Write}
use Rattle.beam_values.specs.declared.plan.Plan.{Plan}
use Rattle.beam_values.specs.declared.plan.StateKind.{StateKind}
use Rattle.beam_values.specs.declared.value.Value.{Value}
use Rattle.beam_model.specs.Chains.{Output, PoisonAt, chain}
use Rattle.beam_model.specs.Steps.{Stepped, steps}
use Rattle.stateful_core.specs.KeyWork.{call_outputs, calls_outputs, key_outputs, outputs_at, outputs_in}

-- whatever the state is, all has it that a call on this input gives
abbrev pub GivesAll : (Element → Type 0) → StateKind → Args → Value → Interval → LogInput → Type 0
GivesAll Q work args key span input = (kept : KeptState) → IfSome (steps work args key span input kept) (λ (s : Stepped). All Q s.outputs)

module _ (P : Output → Type 0) (Q : Element → Type 0) (plan : Plan) (node : ℕ) (poison : P (PoisonAt node)) where
  module _ (onward : (e : Element) → Q e → All P (chain plan node e)) where
    elements_all : (outputs : List Element) → All Q outputs → All P (flat_map (chain plan node) outputs)
    elements_all [] all = All-nil P
    elements_all (e ∷ outputs) all =
        All-append P (chain plan node e) (flat_map (chain plan node) outputs) (onward e (All-head Q e outputs all)) (elements_all outputs (All-tail Q e outputs all))

    calls_all : (work : StateKind) (args : Args) (key : Value) (span : Interval) (inputs : List LogInput) → All (GivesAll Q work args key span) inputs → (kept : KeptState)
        → All P (calls_outputs plan node work args key span inputs kept)
    calls_all work args key span [] give kept = All-nil P
    calls_all work args key span (input ∷ inputs) give kept =
        by (steps work args key span input kept) (All-head (GivesAll Q work args key span) input inputs give kept)
        (calls_all work args key span inputs (All-tail (GivesAll Q work args key span) input inputs give))
      where
        by : (called : Option Stepped) → IfSome called (λ (s : Stepped). All Q s.outputs) → ((k : KeptState) → All P (calls_outputs plan node work args key span inputs k))
            → All P (call_outputs plan node (calls_outputs plan node work args key span inputs) called)
        by None all rest = All-cons P (PoisonAt node) [] poison (All-nil P)
        by (Some s) all rest = All-append P (flat_map (chain plan node) s.outputs) (calls_outputs plan node work args key span inputs s.kept) (elements_all s.outputs all) (rest s.kept)

  pub given_all : (is_stateful plan node ≡ true → (e : Element) → Q e → All P (chain plan node e)) → (key : Value) (span : Interval) (inputs : List LogInput)
      → ((work : StateKind) (args : Args) → All (GivesAll Q work args key span) inputs) → (kept : KeptState) → All P (key_outputs plan node key span inputs kept)
  given_all onward key span inputs give kept = by_node (slice_get plan.nodes node) refl
    where
      by_kind : (kind : NodeKind) → is_stateful plan node ≡ is_stateful_kind kind → All P (outputs_at plan node kind key span inputs kept)
      by_kind (Stateful work args log) is = calls_all (onward is) work args key span inputs (give work args) kept
      by_kind (Source work args files estimator) is = All-nil P
      by_kind (ParDo work args) is = All-nil P
      by_kind Flatten is = All-nil P
      by_kind (WindowInto strategy) is = All-nil P
      by_kind (Group trigger) is = All-nil P
      by_kind (Write label) is = All-nil P

      by_node : (found : Option Node) → slice_get plan.nodes node ≡ found → All P (outputs_in plan node found key span inputs kept)
      by_node None at = All-nil P
      by_node (Some n) at = by_kind n.kind (ap (λ (o : Option Node). unwrap_or (option_map (λ (x : Node). is_stateful_kind x.kind) o) false) at)

-- whatever the calls give
abbrev IsAny : Element → Type 0
IsAny e = Unit {0}

any_given : (called : Option Stepped) → IfSome called (λ (s : Stepped). All IsAny s.outputs)
any_given None = tt
any_given (Some s) = λ k d inside. tt

pub outputs_all : (P : Output → Type 0) (plan : Plan) (node : ℕ) → P (PoisonAt node) → (is_stateful plan node ≡ true → (e : Element) → All P (chain plan node e))
    → (key : Value) (span : Interval) (inputs : List LogInput) (kept : KeptState) → All P (key_outputs plan node key span inputs kept)
outputs_all P plan node poison onward key span inputs kept =
    given_all P IsAny plan node poison (λ on e any. onward on e) key span inputs (λ work args k d inside state. any_given (steps work args key span (get_or inputs k d) state)) kept
