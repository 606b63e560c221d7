-- Where chains end: at the barriers after a node, and at the functions after it that find poison.
use Rattle.std.proofs.Common.{◌≡◌, ◌⊎◌, inl, inr, ℕ, zero, suc, ◌+◌, ◌<◌, ◌==◌, Bool, true, false, cond, List, [], ◌∷◌, drop, Option, Some, None, refl, sym, ap, subst, ◌∙◌, arith}
use Rattle.std.specs.Prelude.{slice_get}
use Rattle.std.specs.List.{All, AllByRecursion, flat_map, list_any}
use Rattle.std.specs.Option.{option_map}
use Rattle.std.proofs.lemmas.Bool.{or_left, or_right}
use Rattle.std.proofs.lemmas.List.Elements.{All-from_recursion}
use Rattle.beam_values.specs.Windows.{windows_of}
use Rattle.beam_values.specs.declared.element.Element.{Element}
use Rattle.beam_values.specs.declared.plan.Node.{Node}
use Rattle.beam_values.specs.declared.plan.NodeKind.{NodeKind}
use Rattle.beam_values.specs.declared.plan.NodeKind.TheVariants.{Source, ParDo, Flatten, WindowInto, Group, Stateful, Write}
use Rattle.beam_values.specs.declared.plan.Plan.{Plan}
use Rattle.beam_model.specs.Chains.{Output, Arrives, PoisonAt, carried, through, chain_from, chain}
use Rattle.beam_model.specs.Functions.{emits}
use Rattle.beam_values.specs.Nodes.{is_barrier_kind, is_par_do_kind, is_above}
use Rattle.beam_model.specs.Plain.{node_of}
use Rattle.beam_model.proofs.Above.{above_by_one_input}
use Rattle.beam_model.specs.Premises.{EndsAfter}
use Rattle.beam_model.proofs.Lists.{each-append, each-flat_map}

-- `Reached` holds of nodes, `P` of what may come of their outputs. A node is reached if it takes from an earlier one that is.
module _ (Reached : ℕ → Type 0) (P : Output → Type 0) where
  -- what may come of an element at a node: its arrival at a barrier, or its poison at a ParDo
  record MayEnd (node : ℕ) (kind : NodeKind) : Type 0 where
    arrived : (e : Element) → is_barrier_kind kind ≡ true → P (Arrives (record { node = node; element = e }))
    poison : is_par_do_kind kind ≡ true → P (PoisonAt node)

  -- what is known of nodes, the first of which has the number `next`
  record AllMayEnd (nodes : List Node) (next : ℕ) : Type 0 where
    ends : (k : ℕ) (node : Node) → slice_get nodes k ≡ Some node → Reached (next + k) → MayEnd (next + k) node.kind
    takes : (k : ℕ) (node : Node) (from : ℕ) → slice_get nodes k ≡ Some node → from < next + k → Reached from
        → list_any (λ input. input == from) node.inputs ≡ true → Reached (next + k)

  ends_here : (node : Node) (later : List Node) (next : ℕ) → AllMayEnd (node ∷ later) next → Reached next → MayEnd next node.kind
  ends_here node later next may reached =
      let place : next + 0 ≡ next = omega arith in
      subst (λ (k : ℕ). MayEnd k node.kind) place (may.ends 0 node refl (subst Reached (sym place) reached))

  takes_here : (node : Node) (later : List Node) (next from : ℕ) → AllMayEnd (node ∷ later) next → from < next → Reached from
      → list_any (λ input. input == from) node.inputs ≡ true → Reached next
  takes_here node later next from may before reached some =
      let place : next + 0 ≡ next = omega arith in
      subst Reached place (may.takes 0 node from refl (omega arith) reached some)

  end_later : (node : Node) (later : List Node) (next : ℕ) → AllMayEnd (node ∷ later) next → AllMayEnd later (next + 1)
  end_later node later next may = record {
    ends = λ k other here reached.
        let place : next + suc k ≡ (next + 1) + k = omega arith in
        subst (λ (j : ℕ). MayEnd j other.kind) place (may.ends (suc k) other here (subst Reached (sym place) reached));
    takes = λ k other from here before reached some.
        let place : next + suc k ≡ (next + 1) + k = omega arith in
        subst Reached place (may.takes (suc k) other from here (omega arith) reached some);
  }

  carried_ends : (node : ℕ) (onward : Element → List Output) → ((e : Element) → AllByRecursion P (onward e)) → P (PoisonAt node)
      → (given : Option (List Element)) → AllByRecursion P (carried node onward given)
  carried_ends node onward ends poison None = (poison, tt)
  carried_ends node onward ends poison (Some outputs) = each-flat_map P onward ends outputs

  through_ends : (node : ℕ) (kind : NodeKind) → MayEnd node kind → (onward : Element → List Output) → ((e : Element) → AllByRecursion P (onward e))
      → (e : Element) → AllByRecursion P (through node kind onward e)
  through_ends node (Source work args files estimator) may onward ends e = tt
  through_ends node (ParDo work args) may onward ends e = carried_ends node onward ends (may.poison refl) (emits work args e)
  through_ends node Flatten may onward ends e = ends e
  through_ends node (WindowInto strategy) may onward ends e =
      each-flat_map P (λ span. onward (record e { span = span })) (λ span. ends (record e { span = span })) (windows_of strategy e.time)
  through_ends node (Group trigger) may onward ends e = (may.arrived e refl, tt)
  through_ends node (Stateful work args log) may onward ends e = (may.arrived e refl, tt)
  through_ends node (Write label) may onward ends e = (may.arrived e refl, tt)

  -- inputs that are the node `from` bring what ends well; others bring nothing
  taken_ends : (from : ℕ) (outputs : List Output) (inputs : List ℕ)
      → (list_any (λ input. input == from) inputs ≡ true → AllByRecursion P outputs)
      → AllByRecursion P (flat_map (λ input. cond (input == from) outputs []) inputs)
  taken_ends from outputs [] ends = tt
  taken_ends from outputs (input ∷ inputs) ends =
      each-append P (cond (input == from) outputs []) (flat_map (λ i. cond (i == from) outputs []) inputs)
      (by_test (input == from) (λ own. ends (or_left (input == from) _ own)))
      (taken_ends from outputs inputs (λ some. ends (or_right (input == from) _ some)))
    where
      by_test : (own : Bool) → (own ≡ true → AllByRecursion P outputs) → AllByRecursion P (cond own outputs [])
      by_test true ends = ends refl
      by_test false ends = tt

  chain_ends : (nodes : List Node) (next : ℕ) → AllMayEnd nodes next → (from : ℕ) → from < next → Reached from → (e : Element)
      → AllByRecursion P (chain_from nodes next from e)
  chain_ends [] next may from before reached e = tt
  chain_ends (node ∷ later) next may from before reached e =
      let onward : (n : ℕ) → n < next + 1 → Reached n → (e : Element) → AllByRecursion P (chain_from later (next + 1) n e) =
      chain_ends later (next + 1) (end_later node later next may) in
      let outputs : List Output = through next node.kind (chain_from later (next + 1) next) e in
      each-append P (flat_map (λ input. cond (input == from) outputs []) node.inputs) (chain_from later (next + 1) from e)
      (taken_ends from outputs node.inputs
      (λ some.
      let here : Reached next = takes_here node later next from may before reached some in
      through_ends next node.kind (ends_here node later next may here) (chain_from later (next + 1) next) (onward next (omega arith) here) e))
      (onward from (omega arith) reached e)

slice_get-drop : {X : Type 0} (n : ℕ) (xs : List X) (k : ℕ) → slice_get (drop n xs) k ≡ slice_get xs (n + k)
slice_get-drop zero xs k = ap (slice_get xs) (omega arith)
slice_get-drop (suc n) [] k = refl
slice_get-drop (suc n) (x ∷ xs) k =
    let place : suc (n + k) ≡ suc n + k = omega arith in
    slice_get-drop n xs k ∙ ap (slice_get (x ∷ xs)) place

-- the node itself, or one below it
abbrev IsReached : Plan → ℕ → ℕ → Type 0
IsReached plan n node = (node ≡ n) ⊎ (is_above plan n node ≡ true)

abbrev pub EndsBelow : Plan → ℕ → Output → Type 0
EndsBelow plan n output = EndsAfter plan n output × (is_above plan n (node_of output) ≡ true)

-- what an output of a node brings ends below that node, at a barrier or at a ParDo that finds it to be poison
pub chains_end_below : (plan : Plan) (n : ℕ) (e : Element) → All (EndsBelow plan n) (chain plan n e)
chains_end_below plan n e =
    All-from_recursion (EndsBelow plan n) (chain plan n e)
    (chain_ends (IsReached plan n) (EndsBelow plan n) (drop (n + 1) plan.nodes) (n + 1) may n (omega arith) (inl refl) e)
  where
    at : (k : ℕ) (node : Node) → slice_get (drop (n + 1) plan.nodes) k ≡ Some node → slice_get plan.nodes ((n + 1) + k) ≡ Some node
    at k node here = sym (slice_get-drop (n + 1) plan.nodes k) ∙ here

    -- a node after n that is reached is below it
    below : (node : ℕ) → n < node → IsReached plan n node → is_above plan n node ≡ true
    below node after (inl same) = absurd (omega arith)
    below node after (inr above) = above

    way : (from node : ℕ) → from < node → IsReached plan n from → (from ≡ n) ⊎ ((from < node) × (is_above plan n from ≡ true))
    way from node before (inl same) = inl same
    way from node before (inr above) = inr (before, above)

    may : AllMayEnd (IsReached plan n) (EndsBelow plan n) (drop (n + 1) plan.nodes) (n + 1)
    may = record {
      ends = λ k node here reached.
          let above : is_above plan n ((n + 1) + k) ≡ true = below ((n + 1) + k) (omega arith) reached in
          record {
            arrived = λ e barrier. ((omega arith, ap (option_map (λ (it : Node). is_barrier_kind it.kind)) (at k node here) ∙ ap Some barrier), above);
            poison = λ function. ((omega arith, ap (option_map (λ (it : Node). is_par_do_kind it.kind)) (at k node here) ∙ ap Some function), above);
          };
      takes = λ k node from here before reached some. inr (above_by_one_input plan n ((n + 1) + k) from node (at k node here) some (way from ((n + 1) + k) before reached));
    }

pub chains_end : (plan : Plan) (n : ℕ) (e : Element) → All (EndsAfter plan n) (chain plan n e)
chains_end plan n e k d inside = (chains_end_below plan n e k d inside).0

pub outputs_below : (plan : Plan) (n : ℕ) (e : Element) → All (λ output. is_above plan n (node_of output) ≡ true) (chain plan n e)
outputs_below plan n e k d inside = (chains_end_below plan n e k d inside).1
