-- Where the outputs of a node get to: only to barriers that a chain from it can end at.
use Rattle.std.proofs.Common.{◌≡◌, ◌⊎◌, inl, inr, ℕ, zero, suc, ◌+◌, ◌<◌, ◌≤◌, ◌==◌, nat_lt, Bool, true, false, cond, ◌&&◌, ◌||◌, List, [], ◌∷◌, ◌++◌, length, get_or, drop, Option, Some, None, slice_get, refl, sym, ap, subst, ◌∙◌, append_assoc, arith, length-append}
use Rattle.std.specs.Prelude.{fold, unwrap_or, not}
use Rattle.std.specs.Option.{option_map, IfSome}
use Rattle.std.specs.List.{All, list_any, flat_map}
use Rattle.std.proofs.lemmas.Bool.{eqb-true, eq-eqb, and_parts, and_from, or_left, or_right, false≢true}
use Rattle.std.proofs.lemmas.List.{get_or_append_left}
use Rattle.std.proofs.lemmas.List.Elements.{All-nil, All-cons, All-append, All-head, All-tail}
use Rattle.std.proofs.lemmas.Option.{unwrap_or-slice_get}
use Rattle.std.proofs.Math.Seq.{get_or-append_seam}
use Rattle.beam_values.specs.Intervals.{Interval}
use Rattle.beam_values.specs.Nodes.{is_barrier_kind, takes_from}
use Rattle.beam_values.specs.Windows.{windows_of}
use Rattle.beam_values.specs.declared.element.Element.{Element}
use Rattle.beam_values.specs.declared.plan.Node.{Node}
use Rattle.beam_values.specs.declared.plan.NodeKind.{NodeKind}
use Rattle.beam_values.specs.declared.plan.NodeKind.TheVariants.{Source, ParDo, Flatten, WindowInto, Group, Stateful, Write}
use Rattle.beam_values.specs.declared.plan.Plan.{Plan}
use Rattle.beam_model.specs.Chains.{Output, Arrives, PoisonAt, carried, chain, chain_from, through}
use Rattle.beam_model.specs.Functions.{emits}
use Rattle.beam_model.specs.Positions.{Emission, Emits, Poison, TimedValue}
use Rattle.beam_model.specs.Spread.{emission_outputs, from_source}
use Rattle.beam_model.specs.Reach.{ReachesBarrier, passed_nodes, reaches_barrier, takes_passed, with_passed}

-- whether a test stands at a place; none does past the end
abbrev stands : List Bool → ℕ → Bool
stands tests n = unwrap_or (slice_get tests n) false

stands_before : (xs ys : List Bool) (n : ℕ) → n < length xs → stands (xs ++ ys) n ≡ stands xs n
stands_before xs ys n inside =
    unwrap_or-slice_get (xs ++ ys) n false ∙ get_or_append_left xs ys false n inside ∙ sym (unwrap_or-slice_get xs n false)

stands_next : (xs : List Bool) (b : Bool) → stands (xs ++ b ∷ []) (length xs) ≡ b
stands_next xs b = unwrap_or-slice_get (xs ++ b ∷ []) (length xs) false ∙ get_or-append_seam xs b [] false

any_at : {X : Type 0} (p : X → Bool) (xs : List X) (k : ℕ) (d : X) → k < length xs → p (get_or xs k d) ≡ true → list_any p xs ≡ true
any_at p [] k d inside is = absurd (omega arith)
any_at p (x ∷ xs) zero d inside is = or_left (p x) (list_any p xs) is
any_at p (x ∷ xs) (suc k) d inside is = or_right (p x) (list_any p xs) (any_at p xs k d (omega arith) is)

get_at_end : {X : Type 0} (xs : List X) (y : X) (ys : List X) → slice_get (xs ++ y ∷ ys) (length xs) ≡ Some y
get_at_end [] y ys = refl
get_at_end (x ∷ xs) y ys = get_at_end xs y ys

module _ (plan : Plan) (from : ℕ) where
  abbrev passed_by : List Bool → List Node → List Bool
  passed_by before nodes = fold (with_passed from) before nodes

  -- later nodes change nothing of earlier ones
  kept : (before : List Bool) (nodes : List Node) (n : ℕ) → n < length before → stands (passed_by before nodes) n ≡ stands before n
  kept before [] n inside = refl
  kept before (node ∷ later) n inside =
      let added : List Bool = (list_any (takes_from from before) node.inputs && not (is_barrier_kind node.kind)) ∷ [] in
      kept (before ++ added) later n (omega (arith, length-append before added)) ∙ stands_before before added n inside

  abbrev Reaches : Output → Type 0
  Reaches = ReachesBarrier plan from

  -- the node is the first, or outputs of the first pass through it
  abbrev IsPassed : ℕ → Type 0
  IsPassed n = (n ≡ from) ⊎ (stands (passed_nodes plan from) n ≡ true)

  elements_reach : (onward : Element → List Output) → ((e : Element) → All Reaches (onward e)) → (outputs : List Element) → All Reaches (flat_map onward outputs)
  elements_reach onward brings [] = All-nil Reaches
  elements_reach onward brings (e ∷ outputs) = All-append Reaches (onward e) (flat_map onward outputs) (brings e) (elements_reach onward brings outputs)

  windows_reach : (onward : Element → List Output) → ((e : Element) → All Reaches (onward e)) → (e : Element) (spans : List Interval)
      → All Reaches (flat_map (λ span. onward (record e { span = span })) spans)
  windows_reach onward brings e [] = All-nil Reaches
  windows_reach onward brings e (span ∷ spans) =
      All-append Reaches (onward (record e { span = span })) (flat_map (λ s. onward (record e { span = s })) spans) (brings (record e { span = span })) (windows_reach onward brings e spans)

  function_reaches : (n : ℕ) (onward : Element → List Output) → ((e : Element) → All Reaches (onward e)) → (given : Option (List Element)) → All Reaches (carried n onward given)
  function_reaches n onward brings None = All-cons Reaches (PoisonAt n) [] tt (All-nil Reaches)
  function_reaches n onward brings (Some outputs) = elements_reach onward brings outputs

  arrival_reaches : (n : ℕ) (e : Element) → reaches_barrier plan from n ≡ true → All Reaches (Arrives (record { node = n; element = e }) ∷ [])
  arrival_reaches n e is = All-cons Reaches (Arrives (record { node = n; element = e })) [] is (All-nil Reaches)

  node_reaches : (n : ℕ) (kind : NodeKind) (onward : Element → List Output) → (is_barrier_kind kind ≡ true → reaches_barrier plan from n ≡ true)
      → (is_barrier_kind kind ≡ false → (e : Element) → All Reaches (onward e)) → (e : Element) → All Reaches (through n kind onward e)
  node_reaches n (Source work args files estimator) onward ends brings e = All-nil Reaches
  node_reaches n (ParDo work args) onward ends brings e = function_reaches n onward (brings refl) (emits work args e)
  node_reaches n Flatten onward ends brings e = brings refl e
  node_reaches n (WindowInto strategy) onward ends brings e = windows_reach onward (brings refl) e (windows_of strategy e.time)
  node_reaches n (Group trigger) onward ends brings e = arrival_reaches n e (ends refl)
  node_reaches n (Stateful work args log) onward ends brings e = arrival_reaches n e (ends refl)
  node_reaches n (Write label) onward ends brings e = arrival_reaches n e (ends refl)

  inputs_reach : (n : ℕ) (outputs : List Output) (inputs : List ℕ) → All (λ input. input ≡ n → All Reaches outputs) inputs
      → All Reaches (flat_map (λ input. cond (input == n) outputs []) inputs)
  inputs_reach n outputs [] brings = All-nil Reaches
  inputs_reach n outputs (input ∷ inputs) brings =
      All-append Reaches (cond (input == n) outputs []) (flat_map (λ i. cond (i == n) outputs []) inputs)
      (by (input == n) refl) (inputs_reach n outputs inputs (All-tail (λ i. i ≡ n → All Reaches outputs) input inputs brings))
    where
      by : (t : Bool) → (input == n) ≡ t → All Reaches (cond t outputs [])
      by true e = All-head (λ i. i ≡ n → All Reaches outputs) input inputs brings (eqb-true input n e)
      by false e = All-nil Reaches

  -- node after node, where `before` says of each earlier node whether outputs pass through it
  nodes_reach : (front : List Node) (before : List Bool) (nodes : List Node) (next : ℕ) → plan.nodes ≡ front ++ nodes → next ≡ length front → length before ≡ next
      → passed_nodes plan from ≡ passed_by before nodes → (n : ℕ) → n < next → IsPassed n → (e : Element) → All Reaches (chain_from nodes next n e)
  nodes_reach front before [] next same at sized all n low way e = All-nil Reaches
  nodes_reach front before (node ∷ later) next same at sized all n low way e =
      let added : List Bool = (list_any (takes_from from before) node.inputs && not (is_barrier_kind node.kind)) ∷ [] in
      let onward : (m : ℕ) → m < next + 1 → IsPassed m → (x : Element) → All Reaches (chain_from later (next + 1) m x) =
      nodes_reach (front ++ node ∷ []) (before ++ added) later (next + 1) (same ∙ sym (append_assoc front (node ∷ []) later))
      (omega (arith, at, length-append front (node ∷ []))) (omega (arith, sized, length-append before added)) all in
      All-append Reaches (flat_map (λ input. cond (input == n) (through next node.kind (chain_from later (next + 1) next) e) []) node.inputs) (chain_from later (next + 1) n e)
      (inputs_reach n (through next node.kind (chain_from later (next + 1) next) e) node.inputs
      (λ k d inside is.
      node_reaches next node.kind (chain_from later (next + 1) next) (λ barrier. ends barrier k d inside is)
      (λ barrier. onward next (omega arith) (inr (passes barrier k d inside is))) e))
      (onward n (omega arith) way e)
    where
      here : slice_get plan.nodes next ≡ Some node
      here = ap (slice_get plan.nodes) at ∙ ap (λ (l : List Node). slice_get l (length front)) same ∙ get_at_end front node later

      -- the node takes an input that outputs of `from` pass through
      takes_now : (tests : List Bool) → stands tests n ≡ stands (passed_nodes plan from) n → takes_from from tests n ≡ true
      takes_now tests alike = by way
        where
          by : IsPassed n → takes_from from tests n ≡ true
          by (inl own) = or_left (n == from) (stands tests n) (eq-eqb n from own)
          by (inr carried) = or_right (n == from) (stands tests n) (alike ∙ carried)

      takes_input : (tests : List Bool) → stands tests n ≡ stands (passed_nodes plan from) n → (k : ℕ) (d : ℕ) → k < length node.inputs → get_or node.inputs k d ≡ n
          → list_any (takes_from from tests) node.inputs ≡ true
      takes_input tests alike k d inside is = any_at (takes_from from tests) node.inputs k d inside (ap (takes_from from tests) is ∙ takes_now tests alike)

      early : stands before n ≡ stands (passed_nodes plan from) n
      early = sym (ap (λ (l : List Bool). stands l n) all ∙ kept before (node ∷ later) n (omega (arith, sized)))

      ends : is_barrier_kind node.kind ≡ true → (k : ℕ) (d : ℕ) → k < length node.inputs → get_or node.inputs k d ≡ n → reaches_barrier plan from next ≡ true
      ends barrier k d inside is =
          ap (λ (found : Option Node). unwrap_or (option_map (takes_passed plan from) found) false) here
          ∙ and_from (is_barrier_kind node.kind) (list_any (takes_from from (passed_nodes plan from)) node.inputs) barrier (takes_input (passed_nodes plan from) refl k d inside is)

      passes : is_barrier_kind node.kind ≡ false → (k : ℕ) (d : ℕ) → k < length node.inputs → get_or node.inputs k d ≡ n → stands (passed_nodes plan from) next ≡ true
      passes barrier k d inside is =
          let added : Bool = list_any (takes_from from before) node.inputs && not (is_barrier_kind node.kind) in
          ap (λ (l : List Bool). stands l next) all
          ∙ kept (before ++ added ∷ []) later next (omega (arith, sized, length-append before (added ∷ [])))
          ∙ ap (stands (before ++ added ∷ [])) (sym sized)
          ∙ stands_next before added
          ∙ and_from (list_any (takes_from from before) node.inputs) (not (is_barrier_kind node.kind)) (takes_input before early k d inside is) (ap not barrier)

  -- the first nodes, up to the node whose outputs are followed
  split_at : (nodes : List Node) (n : ℕ) → n ≤ length nodes → (front : List Node) × (nodes ≡ front ++ drop n nodes) × (n ≡ length front)
  split_at nodes zero low = ([], refl, refl)
  split_at [] (suc n) low = absurd (omega arith)
  split_at (node ∷ nodes) (suc n) low =
      let rest = split_at nodes n (omega arith) in
      (node ∷ rest.0, ap (λ l. node ∷ l) rest.1, omega (arith, rest.2))

  sized_after : (before : List Bool) (nodes : List Node) → length (passed_by before nodes) ≡ length before + length nodes
  sized_after before [] = omega arith
  sized_after before (node ∷ later) =
      let added : List Bool = (list_any (takes_from from before) node.inputs && not (is_barrier_kind node.kind)) ∷ [] in
      sized_after (before ++ added) later ∙ omega (arith, length-append before added)

  fold_join : (before : List Bool) (xs ys : List Node) → passed_by before (xs ++ ys) ≡ passed_by (passed_by before xs) ys
  fold_join before [] ys = refl
  fold_join before (x ∷ xs) ys = fold_join (before ++ (list_any (takes_from from before) x.inputs && not (is_barrier_kind x.kind)) ∷ []) xs ys

  pub chain_reaches : from < length plan.nodes → (e : Element) → All Reaches (chain plan from e)
  chain_reaches low e =
      let cut = split_at plan.nodes (from + 1) (omega arith) in
      nodes_reach cut.0 (passed_by [] cut.0) (drop (from + 1) plan.nodes) (from + 1) cut.1 cut.2 (sized_after [] cut.0 ∙ omega (arith, cut.2))
      (ap (passed_by []) cut.1 ∙ fold_join [] cut.0 (drop (from + 1) plan.nodes)) from (omega arith) (inl refl) e

  values_reach : from < length plan.nodes → (values : List TimedValue) → All Reaches (flat_map (λ v. chain plan from (from_source v)) values)
  values_reach low [] = All-nil Reaches
  values_reach low (v ∷ values) =
      All-append Reaches (chain plan from (from_source v)) (flat_map (λ v. chain plan from (from_source v)) values) (chain_reaches low (from_source v)) (values_reach low values)

  pub emission_reaches : from < length plan.nodes → (e : Emission) → All Reaches (emission_outputs plan from e)
  emission_reaches low (Emits values declared) = values_reach low values
  emission_reaches low Poison = All-cons Reaches (PoisonAt from) [] tt (All-nil Reaches)
