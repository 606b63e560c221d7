-- What holds of an element, and that functions and windows keep, holds wherever its chain ends.
use Rattle.std.proofs.Common.{ℕ, ◌+◌, ◌==◌, Bool, true, false, cond, List, [], ◌∷◌, drop, Option, Some, None}
use Rattle.std.specs.List.{AllByRecursion, flat_map}
use Rattle.std.specs.Option.{IfSome}
use Rattle.beam_values.specs.Windows.{windows_of}
use Rattle.beam_values.specs.declared.element.Element.{Element}
use Rattle.beam_values.specs.declared.plan.Node.{Node}
use Rattle.beam_values.specs.declared.plan.NodeKind.{NodeKind}
use Rattle.beam_values.specs.declared.plan.NodeKind.TheVariants.{Source, ParDo, Flatten, WindowInto, Group, Stateful, Write}
use Rattle.beam_values.specs.declared.plan.Plan.{Plan}
use Rattle.beam_model.specs.Chains.{Output, Arrives, PoisonAt, carried, through, chain_from, chain}
use Rattle.beam_model.specs.Functions.{emits}
use Rattle.combine_laws.proofs.Lists.{each_append, each_flat_map, each_drop}

module _ (P : Element → Type 0) where
  -- a node of this kind puts out only elements of which P holds, where it holds of what the node takes
  abbrev pub IsKeptBy : NodeKind → Type 0
  IsKeptBy (ParDo work args) = (e : Element) → P e → IfSome (emits work args e) (AllByRecursion P)
  IsKeptBy (WindowInto strategy) = (e : Element) → P e → AllByRecursion (λ span. P (record e { span = span })) (windows_of strategy e.time)
  IsKeptBy _ = Unit {0}

  abbrev pub HasKept : Output → Type 0
  HasKept (Arrives arrival) = P arrival.element
  HasKept (PoisonAt node) = Unit {0}

  abbrev Onward : (Element → List Output) → Type 0
  Onward onward = (e : Element) → P e → AllByRecursion HasKept (onward e)

  carried_keeps : (n : ℕ) (onward : Element → List Output) → Onward onward → (given : Option (List Element)) → IfSome given (AllByRecursion P) → AllByRecursion HasKept (carried n onward given)
  carried_keeps n onward keeps None kept = (tt, tt)
  carried_keeps n onward keeps (Some outputs) kept = each_flat_map HasKept P onward keeps outputs kept

  through_keeps : (n : ℕ) (kind : NodeKind) → IsKeptBy kind → (onward : Element → List Output) → Onward onward → (e : Element) → P e → AllByRecursion HasKept (through n kind onward e)
  through_keeps n (Source work args files estimator) kept onward keeps e holds = tt
  through_keeps n (ParDo work args) kept onward keeps e holds = carried_keeps n onward keeps (emits work args e) (kept e holds)
  through_keeps n Flatten kept onward keeps e holds = keeps e holds
  through_keeps n (WindowInto strategy) kept onward keeps e holds =
      each_flat_map HasKept (λ span. P (record e { span = span })) (λ span. onward (record e { span = span })) (λ span in_window. keeps (record e { span = span }) in_window)
      (windows_of strategy e.time) (kept e holds)
  through_keeps n (Group trigger) kept onward keeps e holds = (holds, tt)
  through_keeps n (Stateful work args log) kept onward keeps e holds = (holds, tt)
  through_keeps n (Write label) kept onward keeps e holds = (holds, tt)

  taken_keeps : (from : ℕ) (outputs : List Output) → AllByRecursion HasKept outputs → (inputs : List ℕ) → AllByRecursion HasKept (flat_map (λ input. cond (input == from) outputs []) inputs)
  taken_keeps from outputs kept [] = tt
  taken_keeps from outputs kept (input ∷ inputs) =
      each_append HasKept (cond (input == from) outputs []) (flat_map (λ i. cond (i == from) outputs []) inputs) (by (input == from)) (taken_keeps from outputs kept inputs)
    where
      by : (own : Bool) → AllByRecursion HasKept (cond own outputs [])
      by true = kept
      by false = tt

  nodes_keep : (nodes : List Node) → AllByRecursion (λ node. IsKeptBy node.kind) nodes → (next from : ℕ) (e : Element) → P e → AllByRecursion HasKept (chain_from nodes next from e)
  nodes_keep [] kept next from e holds = tt
  nodes_keep (node ∷ later) kept next from e holds =
      let onward : (n : ℕ) → Onward (chain_from later (next + 1) n) = nodes_keep later kept.1 (next + 1) in
      let outputs : List Output = through next node.kind (chain_from later (next + 1) next) e in
      each_append HasKept (flat_map (λ input. cond (input == from) outputs []) node.inputs) (chain_from later (next + 1) from e)
      (taken_keeps from outputs (through_keeps next node.kind kept.0 (chain_from later (next + 1) next) (onward next) e holds) node.inputs)
      (onward from e holds)

  pub chain_keeps : (plan : Plan) → AllByRecursion (λ node. IsKeptBy node.kind) plan.nodes → (n : ℕ) (e : Element) → P e → AllByRecursion HasKept (chain plan n e)
  chain_keeps plan kept n e holds =
      nodes_keep (drop (n + 1) plan.nodes) (each_drop (λ (node : Node). IsKeptBy node.kind) (n + 1) plan.nodes kept) (n + 1) n e holds
