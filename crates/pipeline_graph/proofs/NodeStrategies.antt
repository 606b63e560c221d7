-- The strategies of the nodes of a plan, and those of what their inputs put out.
use Rattle.std.proofs.Common.{◌≡◌, ◌⊎◌, inl, inr, ℕ, zero, suc, ◌+◌, ◌<◌, ◌≤◌, ◌&&◌, true, false, cond, List, [], ◌∷◌, ◌++◌, length, get_or, take, drop, Some, None, slice_get, refl, sym, ap, subst, ◌∙◌, zero-add, length-append, arith}
use Rattle.std.specs.Prelude.{ℤ, Option, int_le, fold, unwrap_or}
use Rattle.std.specs.List.{All}
use Rattle.std.specs.Option.{option_map}
use Rattle.std.proofs.lemmas.Bool.{and_from, and_parts, cases_lt, not-true}
use Rattle.std.proofs.lemmas.Grind.{fold-append}
use Rattle.std.proofs.lemmas.Int.{ints}
use Rattle.std.proofs.lemmas.List.{get_or_append_left, get_or_past, get_or_read, take-append-drop, drop_more}
use Rattle.std.proofs.lemmas.List.Elements.{All-nil, All-push}
use Rattle.std.proofs.lemmas.Option.{slice_get_within, get_or_from_slice_get, unwrap_or-slice_get}
use Rattle.std.proofs.Math.Seq.{get_or-append_seam}
use Rattle.beam_values.specs.Checked.{IsChecked, is_same_strategy, is_session, is_set, is_state_allowed, node_refusal, nodes_refusal}
use Rattle.beam_values.specs.Nodes.{NodeFacts, below_group, facts_after, facts_at, facts_of, first_strategy, is_group_kind, is_stateful, is_stateful_kind, onward_of, strategy_of, with_facts}
use Rattle.beam_values.specs.Strategies.{IsAllowed}
use Rattle.beam_values.specs.declared.plan.Node.{Node}
use Rattle.beam_values.specs.declared.plan.NodeKind.{NodeKind}
use Rattle.beam_values.specs.declared.plan.NodeKind.TheVariants.{Source, ParDo, Flatten, WindowInto, Group, Stateful, Write}
use Rattle.beam_values.specs.declared.plan.Plan.{Plan}
use Rattle.beam_values.specs.declared.plan.Strategy.{Strategy}
use Rattle.beam_values.specs.declared.plan.Strategy.TheVariants.{Global, Fixed, Sliding, Sessions, Kept}
use Rattle.pipeline_graph.specs.Rules.{HasInputs, HasOwnStrategy, HasSettings, is_window_into_kind}
use Rattle.pipeline_graph.proofs.BarStairs.{All-from_list_all}
use Rattle.pipeline_graph.proofs.CheckedPlans.{checked_at, counted_inputs, inputs_lower, length-before, settings, unrefused_plan}
use Rattle.pipeline_graph.proofs.Unrefused.{facts_of-push, neither, unrefused}

-- ---- what is known of each node

length-known : (known : List NodeFacts) (nodes : List Node) → length (fold with_facts known nodes) ≡ length known + length nodes
length-known known [] = omega arith
length-known known (node ∷ later) =
    let added : List NodeFacts = facts_after node.kind (first_strategy known node.inputs) ∷ [] in
    length-known (known ++ added) later ∙ omega (arith, length-append known added)

pub length-facts_of : (nodes : List Node) → length (facts_of nodes) ≡ length nodes
length-facts_of nodes = length-known [] nodes ∙ zero-add (length nodes)

-- the facts of a node that has none
abbrev no_facts : NodeFacts
no_facts = record { strategy = Global; onward = Global }

facts_at-is : (known : List NodeFacts) (k : ℕ) → facts_at known k ≡ get_or known k no_facts
facts_at-is known k = unwrap_or-slice_get known k no_facts

facts_at-before : (known more : List NodeFacts) (k : ℕ) → k < length known → facts_at (known ++ more) k ≡ facts_at known k
facts_at-before known more k inside = facts_at-is (known ++ more) k ∙ get_or_append_left known more no_facts k inside ∙ sym (facts_at-is known k)

facts_at-next : (known : List NodeFacts) (facts : NodeFacts) → facts_at (known ++ facts ∷ []) (length known) ≡ facts
facts_at-next known facts = facts_at-is (known ++ facts ∷ []) (length known) ∙ get_or-append_seam known facts [] no_facts

-- later nodes change nothing of earlier ones
facts_at-known : (known : List NodeFacts) (nodes : List Node) (k : ℕ) → k < length known → facts_at (fold with_facts known nodes) k ≡ facts_at known k
facts_at-known known [] k inside = refl
facts_at-known known (node ∷ later) k inside =
    let added : List NodeFacts = facts_after node.kind (first_strategy known node.inputs) ∷ [] in
    facts_at-known (known ++ added) later k (omega (arith, length-append known added)) ∙ facts_at-before known added k inside

module _ (nodes : List Node) (n : ℕ) (node : Node) (here : slice_get nodes n ≡ Some node) where
  split : nodes ≡ take n nodes ++ node ∷ drop (n + 1) nodes
  split =
      sym (take-append-drop n nodes)
      ∙ ap (λ (l : List Node). take n nodes ++ l)
      (drop_more nodes n node (slice_get_within nodes n node here) ∙ ap (λ (it : Node). it ∷ drop (n + 1) nodes) (get_or_from_slice_get nodes n node node here))

  size : length (facts_of (take n nodes)) ≡ n
  size = length-facts_of (take n nodes) ∙ length-before nodes n node here

  pub facts_at-earlier : (k : ℕ) → k < n → facts_at (facts_of nodes) k ≡ facts_at (facts_of (take n nodes)) k
  facts_at-earlier k before =
      ap (λ (l : List Node). facts_at (facts_of l) k) split
      ∙ ap (λ (known : List NodeFacts). facts_at known k) (fold-append with_facts [] (take n nodes) (node ∷ drop (n + 1) nodes))
      ∙ facts_at-known (facts_of (take n nodes)) (node ∷ drop (n + 1) nodes) k (omega (arith, size))

  pub facts_at-node : facts_at (facts_of nodes) n ≡ facts_after node.kind (first_strategy (facts_of (take n nodes)) node.inputs)
  facts_at-node =
      let known : List NodeFacts = facts_of (take n nodes) in
      let facts : NodeFacts = facts_after node.kind (first_strategy known node.inputs) in
      ap (λ (l : List Node). facts_at (facts_of l) n) split
      ∙ ap (λ (all : List NodeFacts). facts_at all n) (fold-append with_facts [] (take n nodes) (node ∷ drop (n + 1) nodes))
      ∙ facts_at-known (known ++ facts ∷ []) (drop (n + 1) nodes) n (omega (arith, size, length-append known (facts ∷ [])))
      ∙ ap (facts_at (known ++ facts ∷ [])) (sym size)
      ∙ facts_at-next known facts

-- ---- what a node puts out, by its own strategy

pub onward_by_kind : (plan : Plan) (n : ℕ) (node : Node) → slice_get plan.nodes n ≡ Some node
    → onward_of plan n ≡ cond (is_group_kind node.kind) (below_group (strategy_of plan n)) (strategy_of plan n)
onward_by_kind plan n node here =
    let above = first_strategy (facts_of (take n plan.nodes)) node.inputs in
    subst (λ (facts : NodeFacts). facts.onward ≡ cond (is_group_kind node.kind) (below_group facts.strategy) facts.strategy)
    (sym (facts_at-node plan.nodes n node here)) (by_kind node.kind above)
  where
    by_kind : (kind : NodeKind) (above : Strategy)
        → (facts_after kind above).onward ≡ cond (is_group_kind kind) (below_group (facts_after kind above).strategy) (facts_after kind above).strategy
    by_kind (Source work args files estimator) above = refl
    by_kind (ParDo work args) above = refl
    by_kind Flatten above = refl
    by_kind (WindowInto strategy) above = refl
    by_kind (Group trigger) above = refl
    by_kind (Stateful work args log) above = refl
    by_kind (Write label) above = refl

-- ---- what the inputs put out

same_length : (a b : ℤ) → (int_le a b && int_le b a) ≡ true → a ≡ b
same_length a b test = let parts = and_parts (int_le a b) (int_le b a) test in grind (arith, ints)

same_strategy : (a b : Strategy) → is_same_strategy a b ≡ true → a ≡ b
same_strategy Global Global test = refl
same_strategy (Fixed size) (Fixed other) test = ap Fixed (same_length size other test)
same_strategy (Sliding size period) (Sliding other others) test =
    let last = and_parts (int_le size other && int_le other size && int_le period others) _ test in
    let first = and_parts (int_le size other && int_le other size) _ last.0 in
    let sizes : size ≡ other = same_length size other first.0 in
    let periods : period ≡ others = same_length period others (and_from _ _ first.1 last.1) in
    cc
same_strategy (Sessions gap) (Sessions other) test = ap Sessions (same_length gap other test)
same_strategy Kept Kept test = refl
same_strategy _ _ test = absurd cc

only_one : (before : List Node) (inputs : List ℕ) → length inputs ≡ 1
    → All (λ input. (facts_at (facts_of before) input).onward ≡ first_strategy (facts_of before) inputs) inputs
only_one before [] one k d inside = absurd (omega arith)
only_one before (input ∷ []) one zero d inside = refl
only_one before (input ∷ []) one (suc k) d inside = absurd (omega arith)
only_one before (input ∷ other ∷ inputs) one k d inside = absurd (omega arith)

-- each input puts out what the first one does
agreeing : (before : List Node) (kind : NodeKind) (inputs : List ℕ) → is_window_into_kind kind ≡ false → HasInputs kind (length inputs) → is_set before kind inputs ≡ true
    → All (λ input. (facts_at (facts_of before) input).onward ≡ first_strategy (facts_of before) inputs) inputs
agreeing before Flatten inputs other counted set = λ k d inside. same_strategy _ _ (All-from_list_all _ inputs set k d inside)
agreeing before (Source work args files estimator) inputs other counted set = λ k d inside. absurd (omega arith)
agreeing before (WindowInto strategy) inputs other counted set = absurd cc
agreeing before (ParDo work args) inputs other counted set = only_one before inputs counted
agreeing before (Group trigger) inputs other counted set = only_one before inputs counted
agreeing before (Stateful work args log) inputs other counted set = only_one before inputs counted
agreeing before (Write label) inputs other counted set = only_one before inputs counted

-- a node that is no source and no WindowInto takes the strategy of its first input
taken_strategy : (kind : NodeKind) (inputs : List ℕ) (above : Strategy) → is_window_into_kind kind ≡ false → HasInputs kind (length inputs)
    → (k : ℕ) → k < length inputs → (facts_after kind above).strategy ≡ above
taken_strategy (Source work args files estimator) inputs above other counted k inside = absurd (omega arith)
taken_strategy (ParDo work args) inputs above other counted k inside = refl
taken_strategy Flatten inputs above other counted k inside = refl
taken_strategy (WindowInto strategy) inputs above other counted k inside = absurd cc
taken_strategy (Group trigger) inputs above other counted k inside = refl
taken_strategy (Stateful work args log) inputs above other counted k inside = refl
taken_strategy (Write label) inputs above other counted k inside = refl

pub inputs_agree : (plan : Plan) (n : ℕ) (node : Node) → IsChecked plan → slice_get plan.nodes n ≡ Some node → is_window_into_kind node.kind ≡ false
    → All (λ input. onward_of plan input ≡ strategy_of plan n) node.inputs
inputs_agree plan n node checked here other k d inside =
    let input = get_or node.inputs k d in
    let counted = counted_inputs plan n node checked here in
    let lower : input < n = inputs_lower plan n node checked here k d inside in
    ap (λ (facts : NodeFacts). facts.onward) (facts_at-earlier plan.nodes n node here input lower)
    ∙ agreeing (take n plan.nodes) node.kind node.inputs other counted (checked_at plan checked n node here).settings k d inside
    ∙ sym (taken_strategy node.kind node.inputs (first_strategy (facts_of (take n plan.nodes)) node.inputs) other counted k inside)
    ∙ sym (ap (λ (facts : NodeFacts). facts.strategy) (facts_at-node plan.nodes n node here))

pub own_strategy : (plan : Plan) (n : ℕ) (node : Node) → slice_get plan.nodes n ≡ Some node → HasOwnStrategy node.kind (strategy_of plan n)
own_strategy plan n node here =
    subst (λ (facts : NodeFacts). HasOwnStrategy node.kind facts.strategy) (sym (facts_at-node plan.nodes n node here)) (by_kind node.kind _)
  where
    by_kind : (kind : NodeKind) (above : Strategy) → HasOwnStrategy kind (facts_after kind above).strategy
    by_kind (Source work args files estimator) above = refl
    by_kind (ParDo work args) above = tt
    by_kind Flatten above = tt
    by_kind (WindowInto strategy) above = refl
    by_kind (Group trigger) above = tt
    by_kind (Stateful work args log) above = tt
    by_kind (Write label) above = tt

-- ---- no Stateful node has sessions

pub no_sessions : (plan : Plan) (n : ℕ) → IsChecked plan → is_stateful plan n ≡ true → is_session (strategy_of plan n) ≡ false
no_sessions plan n checked stateful = by_node (slice_get plan.nodes n) refl stateful
  where
    by_kind : (kind : NodeKind) (inputs : List ℕ) → is_set (take n plan.nodes) kind inputs ≡ true → is_stateful_kind kind ≡ true
        → is_session (facts_after kind (first_strategy (facts_of (take n plan.nodes)) inputs)).strategy ≡ false
    by_kind (Stateful work args log) inputs set is = not-true _ (and_parts (is_state_allowed work args) _ set).1
    by_kind (Source work args files estimator) inputs set is = absurd cc
    by_kind (ParDo work args) inputs set is = absurd cc
    by_kind Flatten inputs set is = absurd cc
    by_kind (WindowInto strategy) inputs set is = absurd cc
    by_kind (Group trigger) inputs set is = absurd cc
    by_kind (Write label) inputs set is = absurd cc

    by_node : (found : Option Node) → slice_get plan.nodes n ≡ found → unwrap_or (option_map (λ node. is_stateful_kind node.kind) found) false ≡ true
        → is_session (strategy_of plan n) ≡ false
    by_node None here is = absurd cc
    by_node (Some node) here is =
        subst (λ (facts : NodeFacts). is_session facts.strategy ≡ false) (sym (facts_at-node plan.nodes n node here))
        (by_kind node.kind node.inputs (checked_at plan checked n node here).settings is)

-- ---- each strategy is allowed

pub record HasAllowed (facts : NodeFacts) : Type 0 where
  pub own : IsAllowed facts.strategy
  pub onward : IsAllowed facts.onward

allowed_first : (known : List NodeFacts) (inputs : List ℕ) → All HasAllowed known → IsAllowed (first_strategy known inputs)
allowed_first known [] all = tt
allowed_first known (input ∷ inputs) all =
    subst (λ (facts : NodeFacts). IsAllowed facts.onward) (sym (facts_at-is known input)) (at_read (cases_lt input (length known)))
  where
    at_read : (input < length known) ⊎ (length known ≤ input) → IsAllowed (get_or known input no_facts).onward
    at_read (inl inside) = (all input no_facts inside).onward
    at_read (inr past) = subst (λ (facts : NodeFacts). IsAllowed facts.onward) (sym (get_or_past known input no_facts past)) tt

allowed_below : (strategy : Strategy) → IsAllowed strategy → IsAllowed (below_group strategy)
allowed_below Global allowed = allowed
allowed_below (Fixed width) allowed = allowed
allowed_below (Sliding width period) allowed = allowed
allowed_below (Sessions gap) allowed = tt
allowed_below Kept allowed = allowed

allowed_after : (kind : NodeKind) (above : Strategy) → HasSettings kind → IsAllowed above → HasAllowed (facts_after kind above)
allowed_after (Source work args files estimator) above set allowed = record { own = tt; onward = tt }
allowed_after (ParDo work args) above set allowed = record { own = allowed; onward = allowed }
allowed_after Flatten above set allowed = record { own = allowed; onward = allowed }
allowed_after (WindowInto strategy) above set allowed = record { own = set.0; onward = set.0 }
allowed_after (Group trigger) above set allowed = record { own = allowed; onward = allowed_below above allowed }
allowed_after (Stateful work args log) above set allowed = record { own = allowed; onward = allowed }
allowed_after (Write label) above set allowed = record { own = allowed; onward = allowed }

allowed_known : (before nodes : List Node) → nodes_refusal before nodes ≡ None → (known : List NodeFacts) → known ≡ facts_of before → All HasAllowed known
    → All HasAllowed (fold with_facts known nodes)
allowed_known before [] none known is all = all
allowed_known before (node ∷ later) none known is all =
    let parts = neither (node_refusal before node) (nodes_refusal (before ++ node ∷ []) later) none in
    let set = settings before node.kind node.inputs (unrefused before node parts.0).settings in
    allowed_known (before ++ node ∷ []) later parts.1 (with_facts known node) (ap (λ (l : List NodeFacts). with_facts l node) is ∙ sym (facts_of-push before node))
    (All-push HasAllowed known (facts_after node.kind (first_strategy known node.inputs)) all (allowed_after node.kind _ set (allowed_first known node.inputs all)))

pub allowed_strategies : (plan : Plan) (n : ℕ) → IsChecked plan → IsAllowed (strategy_of plan n)
allowed_strategies plan n checked =
    subst (λ (facts : NodeFacts). IsAllowed facts.strategy) (sym (facts_at-is known n)) (at_read (cases_lt n (length known)))
  where
    known : List NodeFacts
    known = facts_of plan.nodes

    all : All HasAllowed known
    all = allowed_known [] plan.nodes (unrefused_plan plan checked).nodes [] refl (All-nil HasAllowed)

    at_read : (n < length known) ⊎ (length known ≤ n) → IsAllowed (get_or known n no_facts).strategy
    at_read (inl inside) = (all n no_facts inside).own
    at_read (inr past) = subst (λ (facts : NodeFacts). IsAllowed facts.strategy) (sym (get_or_past known n no_facts past)) tt

-- it is kept of each node
pub known_within : (plan seen : Plan) (known : List NodeFacts) (n : ℕ) → plan ≡ seen → known ≡ facts_of plan.nodes → n < length seen.nodes → n < length known
known_within plan seen known n same is within =
    let size : length known ≡ length seen.nodes = ap length is ∙ length-facts_of plan.nodes ∙ ap (λ (it : Plan). length it.nodes) same in omega arith

-- what is kept of a node is its strategy
pub kept_strategy : (plan seen : Plan) (known : List NodeFacts) (n : ℕ) (facts : NodeFacts) → plan ≡ seen → known ≡ facts_of plan.nodes → n < length seen.nodes
    → facts ≡ get_or known n facts → facts.strategy ≡ strategy_of seen n
kept_strategy plan seen known n facts same is within read =
    let inside : n < length known = known_within plan seen known n same is within in
    ap (λ (it : NodeFacts). it.strategy)
    (get_or_read known n facts inside read no_facts ∙ sym (facts_at-is known n) ∙ ap (λ (l : List NodeFacts). facts_at l n) is)
    ∙ ap (λ (it : Plan). strategy_of it n) same
