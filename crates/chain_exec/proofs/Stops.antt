-- How many nodes elements still get to falls with each node that one passes.
use Rattle.std.proofs.Common.{◌≡◌, ℕ, zero, suc, ◌+◌, ◌-◌, ◌<◌, ◌≤◌, List, [], ◌∷◌, length, reverse, Option, Some, slice_get, refl, ap, ◌∙◌, arith}
use Rattle.std.specs.Prelude.{sum_by, unwrap_or}
use Rattle.std.specs.Option.{option_and_then}
use Rattle.std.specs.List.{All, flat_map}
use Rattle.std.proofs.lemmas.List.Elements.{All-head, All-tail, All-weaker}
use Rattle.std.proofs.lemmas.List.Sums.{sum_by-append, sum_by-cons, sum_by-le-sum_by}
use Rattle.std.proofs.lemmas.List.Sorted.{sum_by-IsPermutation, IsPermutation-reverse}
use Rattle.std.proofs.lemmas.Option.{slice_get_within}
use Rattle.beam_values.specs.Checked.{IsChecked}
use Rattle.beam_values.specs.declared.arrival.Arrival.{Arrival}
use Rattle.beam_values.specs.declared.element.Element.{Element}
use Rattle.beam_values.specs.declared.plan.Node.{Node}
use Rattle.beam_values.specs.declared.plan.Plan.{Plan}
use Rattle.pipeline_graph.specs.Followers.{followers_of}
use Rattle.pipeline_graph.proofs.FollowerChains.{followers_later}
use Rattle.chain_exec.specs.Deliveries.{deliveries_to}
use Rattle.chain_exec.specs.Passing.{Passes, put_out, put_out_at, stops_from, stops_of, stops_of_all}
use Rattle.chain_exec.specs.declared.deliveries.Delivery.{Delivery}

-- with more nodes after it there are no fewer
pub stops_more : (plan : Plan) (few many : ℕ) (d : Delivery) → few ≤ many → stops_from few plan d ≤ stops_from many plan d
unfolding stops_from
stops_more plan zero zero d fits = omega arith
stops_more plan zero (suc many) d fits = omega arith
stops_more plan (suc few) zero d fits = absurd (omega arith)
stops_more plan (suc few) (suc many) d fits =
    let next = flat_map (deliveries_to (followers_of plan d.node)) (put_out_at plan d.node d.element) in
    let more : sum_by (stops_from few plan) next ≤ sum_by (stops_from many plan) next =
    sum_by-le-sum_by (stops_from few plan) (stops_from many plan) next (λ it. stops_more plan few many it (omega arith)) in
    omega (arith, more)

pub some_stop : (plan : Plan) (later : ℕ) (d : Delivery) → 0 < stops_from later plan d
unfolding stops_from
some_stop plan zero d = omega arith
some_stop plan (suc later) d = omega arith

module _ (plan : Plan) (node later : ℕ) (many : length plan.nodes - node ≤ suc later) where
  -- those that come after a node have fewer stops
  fewer_to : (nodes : List ℕ) (e : Element) → All (λ to. node < to) nodes
      → sum_by (stops_of plan) (deliveries_to nodes e) ≤ sum_by (stops_from later plan) (deliveries_to nodes e)
  fewer_to [] e after = omega arith
  fewer_to (n ∷ ns) e after =
      let d : Delivery = record { node = n; element = e } in
      let above : node < n = All-head (λ to. node < to) n ns after in
      omega (
        arith,
        fewer_to ns e (All-tail (λ to. node < to) n ns after),
        sum_by-cons (stops_of plan) d (deliveries_to ns e),
        sum_by-cons (stops_from later plan) d (deliveries_to ns e),
        stops_more plan (length plan.nodes - n) later d (omega arith),
      )

  fewer : (nodes : List ℕ) (outputs : List Element) → All (λ to. node < to) nodes
      → sum_by (stops_of plan) (flat_map (deliveries_to nodes) outputs) ≤ sum_by (stops_from later plan) (flat_map (deliveries_to nodes) outputs)
  fewer nodes [] after = omega arith
  fewer nodes (e ∷ more) after =
      omega (
        arith,
        fewer_to nodes e after,
        fewer nodes more after,
        sum_by-append (stops_of plan) (deliveries_to nodes e) (flat_map (deliveries_to nodes) more),
        sum_by-append (stops_from later plan) (deliveries_to nodes e) (flat_map (deliveries_to nodes) more),
      )

module _ (plan : Plan) (checked : IsChecked plan) (node : ℕ) (at : Node) (e : Element) (here : slice_get plan.nodes node ≡ Some at) where
  put_out_here : (outputs : List Element) → put_out at.kind e ≡ Some outputs → put_out_at plan node e ≡ outputs
  put_out_here outputs is =
      ap (λ (found : Option Node). unwrap_or (option_and_then (λ (it : Node). put_out it.kind e) found) []) here
      ∙ ap (λ (found : Option (List Element)). unwrap_or found []) is

  after_node : All (λ to. node < to) (followers_of plan node)
  after_node = All-weaker (λ to. (node < to) × (to < length plan.nodes)) (λ to. node < to) (λ to both. both.0) (followers_of plan node) (followers_later plan node checked)

  next_fewer : (left : ℕ) → length plan.nodes - node ≡ left → 0 < left → (outputs : List Element) → put_out at.kind e ≡ Some outputs
      → sum_by (stops_of plan) (flat_map (deliveries_to (followers_of plan node)) outputs) < stops_from left plan (record { node = node; element = e })
  unfolding stops_from
  next_fewer zero is some outputs out = absurd (omega arith)
  next_fewer (suc later) is some outputs out =
      let less = fewer plan node later (omega arith) (followers_of plan node) outputs after_node in
      let same = ap (λ (l : List Element). sum_by (stops_from later plan) (flat_map (deliveries_to (followers_of plan node)) l)) (put_out_here outputs out) in
      omega (arith, less, same)

  pub passed_less : (stack after : List Delivery) (staged staged_after : List Arrival) → Passes node at.kind (followers_of plan node) e stack after staged staged_after
      → stops_of_all plan after < stops_of plan (record { node = node; element = e }) + stops_of_all plan stack
  passed_less stack after staged staged_after passes =
      let top = flat_map (deliveries_to (followers_of plan node)) passes.0 in
      let inside = slice_get_within plan.nodes node at here in
      let less = next_fewer (length plan.nodes - node) refl (omega (arith, inside)) passes.0 passes.1 in
      omega (
        arith,
        less,
        ap (stops_of_all plan) passes.2,
        sum_by-append (stops_of plan) stack (reverse top),
        sum_by-IsPermutation (stops_of plan) top (reverse top) (IsPermutation-reverse top),
      )
