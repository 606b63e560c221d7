-- In a checked plan each gap of sessions is positive.
use Rattle.std.proofs.Common.{◌≡◌, ◌⊎◌, inl, inr, ℕ, ◌<◌, ◌≤◌, ◌<ℤ◌, ℤ, pos, Bool, true, false, cond, List, [], ◌∷◌, ◌++◌, length, get_or, Option, Some, None, refl, sym, subst, arith}
use Rattle.std.specs.Prelude.{◌&&◌, ◌==◌, nat_lt, not, fold, int_le}
use Rattle.std.specs.List.{All, list_all, list_any}
use Rattle.std.specs.Option.{option_or}
use Rattle.std.proofs.lemmas.Bool.{and_parts, cases_lt, not-false}
use Rattle.std.proofs.lemmas.Int.{ints}
use Rattle.std.proofs.lemmas.List.{get_or_past}
use Rattle.std.proofs.lemmas.List.Elements.{All-nil, All-push}
use Rattle.std.proofs.lemmas.Option.{unwrap_or-slice_get}
use Rattle.beam_values.specs.Checked.{IsChecked, is_set, has_arity, has_input, is_write_in, is_kept, node_refusal, nodes_refusal, write_refusal}
use Rattle.beam_values.specs.Nodes.{NodeFacts, is_source_kind, below_group, facts_after, facts_at, facts_of, first_strategy, strategy_of, with_facts}
use Rattle.beam_values.specs.Strategies.{greatest_length, is_length, is_allowed}
use Rattle.beam_values.specs.declared.plan.Node.{Node}
use Rattle.beam_values.specs.declared.plan.NodeKind.{NodeKind}
use Rattle.beam_values.specs.declared.plan.NodeKind.TheVariants.{Source, ParDo, Flatten, WindowInto, Group, Stateful, Write}
use Rattle.beam_values.specs.declared.plan.Plan.{Plan}
use Rattle.beam_values.specs.declared.plan.Strategy.{Strategy}
use Rattle.beam_values.specs.declared.plan.Strategy.TheVariants as strategy

abbrev pub IsPositive : Strategy → Type 0
IsPositive (strategy.Sessions gap) = pos 0 <ℤ gap
IsPositive _ = Unit {0}

record HasPositive (facts : NodeFacts) : Type 0 where
  own : IsPositive facts.strategy
  onward : IsPositive facts.onward

abbrev no_facts : NodeFacts
no_facts = record { strategy = strategy.Global; onward = strategy.Global }

long_gap : (gap : ℤ) → is_length gap ≡ true → pos 0 <ℤ gap
long_gap gap test = let parts = and_parts (int_le (pos 1) gap) (int_le gap greatest_length) test in let low = parts.0 in grind (arith, ints)

allowed_positive : (s : Strategy) → is_allowed s ≡ true → IsPositive s
allowed_positive strategy.Global test = tt
allowed_positive (strategy.Fixed size) test = tt
allowed_positive (strategy.Sliding size period) test = tt
allowed_positive (strategy.Sessions gap) test = long_gap gap test
allowed_positive strategy.Kept test = tt

below_positive : (s : Strategy) → IsPositive s → IsPositive (below_group s)
below_positive strategy.Global h = tt
below_positive (strategy.Fixed size) h = tt
below_positive (strategy.Sliding size period) h = tt
below_positive (strategy.Sessions gap) h = tt
below_positive strategy.Kept h = tt

positive_at : (known : List NodeFacts) (k : ℕ) → All HasPositive known → HasPositive (facts_at known k)
positive_at known k all = subst HasPositive (sym (unwrap_or-slice_get known k no_facts)) (by (cases_lt k (length known)))
  where
    by : (k < length known) ⊎ (length known ≤ k) → HasPositive (get_or known k no_facts)
    by (inl inside) = all k no_facts inside
    by (inr past) = subst HasPositive (sym (get_or_past known k no_facts past)) (record { own = tt; onward = tt })

positive_first : (known : List NodeFacts) (inputs : List ℕ) → All HasPositive known → IsPositive (first_strategy known inputs)
positive_first known [] all = tt
positive_first known (input ∷ inputs) all = (positive_at known input all).onward

positive_after : (before : List Node) (kind : NodeKind) (inputs : List ℕ) (above : Strategy) → is_set before kind inputs ≡ true → IsPositive above → HasPositive (facts_after kind above)
positive_after before (Source work args files estimator) inputs above set h = record { own = tt; onward = tt }
positive_after before (ParDo work args) inputs above set h = record { own = h; onward = h }
positive_after before Flatten inputs above set h = record { own = h; onward = h }
positive_after before (WindowInto s) inputs above set h =
    let own = allowed_positive s (and_parts (is_allowed s) (not (is_kept s)) set).0 in
    record { own = own; onward = own }
positive_after before (Group trigger) inputs above set h = record { own = h; onward = below_positive above h }
positive_after before (Stateful work args log) inputs above set h = record { own = h; onward = h }
positive_after before (Write label) inputs above set h = record { own = h; onward = h }

unbroken : {X : Type 0} (broken : Bool) (rule : X) (rest : Option X) → cond broken (Some rule) rest ≡ None → (broken ≡ false) × (rest ≡ None)
unbroken true rule rest none = absurd cc
unbroken false rule rest none = (refl, none)

neither : {X : Type 0} (first second : Option X) → option_or first second ≡ None → (first ≡ None) × (second ≡ None)
neither None second none = (refl, none)
neither (Some x) second none = absurd cc

-- a node that no rule refuses has its settings
is_set_there : (before : List Node) (node : Node) → node_refusal before node ≡ None → is_set before node.kind node.inputs ≡ true
is_set_there before node none =
    let sources = unbroken (is_source_kind node.kind && has_input node.inputs) _ _ none in
    let arity = unbroken (not (has_arity node.kind node.inputs)) _ _ sources.1 in
    let inputs = unbroken (not (list_all (λ input. nat_lt input (length before)) node.inputs)) _ _ arity.1 in
    let writes = unbroken (list_any (is_write_in before) node.inputs) _ _ inputs.1 in
    let settings = unbroken (not (is_set before node.kind node.inputs)) _ _ writes.1 in
    not-false _ settings.0

positive_known : (before nodes : List Node) → nodes_refusal before nodes ≡ None → (known : List NodeFacts) → All HasPositive known → All HasPositive (fold with_facts known nodes)
positive_known before [] none known all = all
positive_known before (node ∷ later) none known all =
    let parts = neither (node_refusal before node) (nodes_refusal (before ++ node ∷ []) later) none in
    positive_known (before ++ node ∷ []) later parts.1 (with_facts known node)
    (All-push HasPositive known (facts_after node.kind (first_strategy known node.inputs)) all
    (positive_after before node.kind node.inputs (first_strategy known node.inputs) (is_set_there before node parts.0) (positive_first known node.inputs all)))

pub positive_gaps : (plan : Plan) (n : ℕ) → IsChecked plan → IsPositive (strategy_of plan n)
positive_gaps plan n checked =
    let empty = unbroken (length plan.nodes == 0) _ _ checked.unrefused in
    let many = unbroken (nat_lt 64 (length plan.nodes)) _ _ empty.1 in
    let rest = neither (nodes_refusal [] plan.nodes) (write_refusal plan.nodes) many.1 in
    (positive_at (facts_of plan.nodes) n (positive_known [] plan.nodes rest.0 [] (All-nil HasPositive))).own
