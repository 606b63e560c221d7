-- What an element brings by way of the node that it passes.
use Rattle.std.proofs.Common.{◌≡◌, ℕ, List, [], ◌∷◌, ◌++◌, map, reverse, Option, Some, slice_get, refl, sym, ap, ◌∙◌, append_assoc}
use Rattle.std.specs.Prelude.{ℤ, unwrap_or}
use Rattle.std.specs.Option.{option_map}
use Rattle.std.specs.List.{flat_map}
use Rattle.std.proofs.lemmas.Grind.{flat_map-append}
use Rattle.std.proofs.lemmas.List.{append-nil, reverse-append, reverse-reverse, map-append}
use Rattle.std.proofs.lemmas.List.Folds.{flat_map-map}
use Rattle.beam_values.specs.Checked.{IsChecked}
use Rattle.beam_values.specs.Windows.{windows_of}
use Rattle.beam_values.specs.declared.arrival.Arrival.{Arrival}
use Rattle.beam_values.specs.declared.element.Element.{Element}
use Rattle.beam_values.specs.declared.plan.Node.{Node}
use Rattle.beam_values.specs.declared.plan.NodeKind.{NodeKind}
use Rattle.beam_values.specs.declared.plan.NodeKind.TheVariants.{Source, ParDo, Flatten, WindowInto, Group, Stateful, Write}
use Rattle.beam_values.specs.declared.plan.Plan.{Plan}
use Rattle.beam_model.specs.Chains.{Output, Arrives, carried, chain, through}
use Rattle.beam_model.specs.Positions.{Emits}
use Rattle.beam_model.specs.Spread.{emission_outputs, from_source}
use Rattle.dofn_traits.specs.Calls.{timed_value}
use Rattle.dofn_traits.specs.declared.calls.Timed.{Timed}
use Rattle.pipeline_graph.specs.Followers.{followers_of}
use Rattle.pipeline_graph.specs.Taking.{taken_by}
use Rattle.pipeline_graph.proofs.FollowerChains.{chain-followers}
use Rattle.chain_exec.specs.Deliveries.{outputs_of_delivery, outputs_of_stack, deliveries_to, element_of}
use Rattle.chain_exec.specs.Passing.{Passes, in_window, kept_at, put_out}
use Rattle.chain_exec.specs.declared.deliveries.Delivery.{Delivery}

-- a Flatten puts out the element itself
pub flatten_passes : (node : ℕ) (followers : List ℕ) (e : Element) (before after : List Delivery) (staged : List Arrival)
    → after ≡ before ++ reverse (deliveries_to followers e) → Passes node Flatten followers e before after staged staged
flatten_passes node followers e before after staged is =
    (e ∷ [], refl, is ∙ ap (λ (d : List Delivery). before ++ reverse d) (sym (append-nil (deliveries_to followers e))), sym (append-nil staged))

-- the outputs of an element at a node: it stays there, or the elements that the node puts out go on
through_outputs : (node : ℕ) (onward : Element → List Output) (kind : NodeKind) (e : Element) (outputs : List Element) → put_out kind e ≡ Some outputs
    → through node kind onward e ≡ map Arrives (kept_at node kind e) ++ flat_map onward outputs
through_outputs node onward (Source work args files estimator) e outputs is = let none : outputs ≡ [] = cc in ap (flat_map onward) (sym none)
through_outputs node onward (ParDo work args) e outputs is = ap (carried node onward) is
through_outputs node onward Flatten e outputs is = let one : outputs ≡ e ∷ [] = cc in sym (append-nil (onward e)) ∙ ap (flat_map onward) (sym one)
through_outputs node onward (WindowInto strategy) e outputs is =
    let each : outputs ≡ map (in_window e) (windows_of strategy e.time) = cc in
    sym (flat_map-map onward (in_window e) (windows_of strategy e.time)) ∙ ap (flat_map onward) (sym each)
through_outputs node onward (Group trigger) e outputs is = let none : outputs ≡ [] = cc in ap (λ l. Arrives (record { node = node; element = e }) ∷ flat_map onward l) (sym none)
through_outputs node onward (Stateful work args log) e outputs is = let none : outputs ≡ [] = cc in ap (λ l. Arrives (record { node = node; element = e }) ∷ flat_map onward l) (sym none)
through_outputs node onward (Write label) e outputs is = let none : outputs ≡ [] = cc in ap (λ l. Arrives (record { node = node; element = e }) ∷ flat_map onward l) (sym none)

module _ (plan : Plan) where
  -- the outputs of a stack with more deliveries on top are those of the top ones, then those of the stack
  stack_with_top : (stack top : List Delivery) → outputs_of_stack plan (stack ++ reverse top) ≡ flat_map (outputs_of_delivery plan) top ++ outputs_of_stack plan stack
  stack_with_top stack top =
      ap (flat_map (outputs_of_delivery plan)) (reverse-append stack (reverse top) ∙ ap (λ (l : List Delivery). l ++ reverse stack) (reverse-reverse top))
      ∙ flat_map-append (outputs_of_delivery plan) top (reverse stack)

  -- the outputs of the delivery on top come first
  pub top_first : (stack rest : List Delivery) (top : Delivery) → stack ≡ rest ++ top ∷ []
      → outputs_of_stack plan stack ≡ outputs_of_delivery plan top ++ outputs_of_stack plan rest
  top_first stack rest top is =
      ap (outputs_of_stack plan) is ∙ stack_with_top rest (top ∷ []) ∙ ap (λ (l : List Output). l ++ outputs_of_stack plan rest) (append-nil (outputs_of_delivery plan top))

module _ (plan : Plan) (checked : IsChecked plan) where
  -- the chain of an element is the outputs of its deliveries to the followers
  pub chain_delivered : (node : ℕ) (e : Element) → chain plan node e ≡ flat_map (outputs_of_delivery plan) (deliveries_to (followers_of plan node) e)
  chain_delivered node e =
      chain-followers plan node e checked
      ∙ sym (flat_map-map (outputs_of_delivery plan) (λ (to : ℕ). record { node = to; element = e }) (followers_of plan node))

  chains_delivered : (node : ℕ) (outputs : List Element)
      → flat_map (chain plan node) outputs ≡ flat_map (outputs_of_delivery plan) (flat_map (deliveries_to (followers_of plan node)) outputs)
  chains_delivered node [] = refl
  chains_delivered node (e ∷ more) =
      ap (λ (l : List Output). l ++ flat_map (chain plan node) more) (chain_delivered node e)
      ∙ ap (λ (l : List Output). flat_map (outputs_of_delivery plan) (deliveries_to (followers_of plan node) e) ++ l) (chains_delivered node more)
      ∙ sym (flat_map-append (outputs_of_delivery plan) (deliveries_to (followers_of plan node) e) (flat_map (deliveries_to (followers_of plan node)) more))

  taken_outputs : (node : ℕ) (at : Node) (e : Element) (outputs : List Element) → slice_get plan.nodes node ≡ Some at → put_out at.kind e ≡ Some outputs
      → taken_by plan e node ≡ map Arrives (kept_at node at.kind e) ++ flat_map (outputs_of_delivery plan) (flat_map (deliveries_to (followers_of plan node)) outputs)
  taken_outputs node at e outputs here is =
      ap (λ (found : Option Node). unwrap_or (option_map (λ it. through node it.kind (chain plan node) e) found) []) here
      ∙ through_outputs node (chain plan node) at.kind e outputs is
      ∙ ap (λ (l : List Output). map Arrives (kept_at node at.kind e) ++ l) (chains_delivered node outputs)

  -- nothing that was on its way is lost where an element passes a node
  pub passed_on : (node : ℕ) (at : Node) (e : Element) (stack after : List Delivery) (staged staged_after : List Arrival)
      → slice_get plan.nodes node ≡ Some at → Passes node at.kind (followers_of plan node) e stack after staged staged_after
      → map Arrives staged_after ++ outputs_of_stack plan after ≡ map Arrives staged ++ (taken_by plan e node ++ outputs_of_stack plan stack)
  passed_on node at e stack after staged staged_after here passes =
      let top = flat_map (deliveries_to (followers_of plan node)) passes.0 in
      let kept = map Arrives (kept_at node at.kind e) in
      let front : map Arrives staged_after ≡ map Arrives staged ++ kept = ap (map Arrives) passes.3 ∙ map-append Arrives staged (kept_at node at.kind e) in
      let back : outputs_of_stack plan after ≡ flat_map (outputs_of_delivery plan) top ++ outputs_of_stack plan stack = ap (outputs_of_stack plan) passes.2 ∙ stack_with_top plan stack top in
      let taken = taken_outputs node at e passes.0 here passes.1 in
      ap (λ (l : List Output). l ++ outputs_of_stack plan after) front
      ∙ ap (λ (l : List Output). (map Arrives staged ++ kept) ++ l) back
      ∙ append_assoc (map Arrives staged) kept (flat_map (outputs_of_delivery plan) top ++ outputs_of_stack plan stack)
      ∙ ap (λ (l : List Output). map Arrives staged ++ l) (sym (append_assoc kept (flat_map (outputs_of_delivery plan) top) (outputs_of_stack plan stack)))
      ∙ ap (λ (l : List Output). map Arrives staged ++ (l ++ outputs_of_stack plan stack)) (sym taken)

  -- where one element alone is on its way to the followers of a node, the outputs of the stack are its chain
  pub element_alone : (node : ℕ) (e : Element) (followers : List ℕ) (before stack : List Delivery) → followers ≡ followers_of plan node → before ≡ []
      → stack ≡ before ++ reverse (deliveries_to followers e) → outputs_of_stack plan stack ≡ chain plan node e
  element_alone node e followers before stack followed none is =
      ap (outputs_of_stack plan) (is ∙ ap (λ (s : List Delivery). s ++ reverse (deliveries_to followers e)) none)
      ∙ ap (flat_map (outputs_of_delivery plan)) (reverse-reverse (deliveries_to followers e))
      ∙ ap (λ fs. flat_map (outputs_of_delivery plan) (deliveries_to fs e)) followed
      ∙ sym (chain_delivered node e)

  -- where the values of an emission are, the outputs of the stack are theirs
  pub values_alone : (node : ℕ) (items : List Timed) (declared : Option ℤ) (followers : List ℕ) (before stack : List Delivery) → followers ≡ followers_of plan node
      → before ≡ [] → stack ≡ before ++ reverse (flat_map (deliveries_to followers) (map element_of items))
      → outputs_of_stack plan stack ≡ emission_outputs plan node (Emits (map timed_value items) declared)
  values_alone node items declared followers before stack followed none is =
      ap (outputs_of_stack plan) (is ∙ ap (λ (s : List Delivery). s ++ reverse (flat_map (deliveries_to followers) (map element_of items))) none)
      ∙ ap (flat_map (outputs_of_delivery plan)) (reverse-reverse (flat_map (deliveries_to followers) (map element_of items)))
      ∙ ap (λ fs. flat_map (outputs_of_delivery plan) (flat_map (deliveries_to fs) (map element_of items))) followed
      ∙ sym (chains_delivered node (map element_of items))
      ∙ flat_map-map (chain plan node) element_of items
      ∙ sym (flat_map-map (λ v. chain plan node (from_source v)) timed_value items)
