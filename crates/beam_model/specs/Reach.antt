-- Where outputs can get to: the nodes that they pass through, and the barriers at which they end.
use Rattle.std.specs.Prelude.{◌≡◌, ℕ, Bool, true, false, not, ◌&&◌, List, [], ◌∷◌, ◌++◌, fold, slice_get, unwrap_or}
use Rattle.std.specs.List.{list_any}
use Rattle.std.specs.Option.{option_map}
use Rattle.beam_values.specs.Nodes.{is_barrier_kind, takes_from}
use Rattle.beam_values.specs.declared.plan.Node.{Node}
use Rattle.beam_values.specs.declared.plan.Plan.{Plan}
use Rattle.beam_model.specs.Chains.{Output, Arrives, PoisonAt}

-- of each node before this one whether outputs of `from` pass through it, with no barrier between; and now of this one
abbrev pub with_passed : ℕ → List Bool → Node → List Bool
with_passed from passed node = passed ++ (list_any (takes_from from passed) node.inputs && not (is_barrier_kind node.kind)) ∷ []

-- the nodes that outputs of `from` pass through
abbrev pub passed_nodes : Plan → ℕ → List Bool
passed_nodes plan from = fold (with_passed from) [] plan.nodes

-- the node is a barrier, and takes outputs of `from`, or of a node that they pass through
abbrev pub takes_passed : Plan → ℕ → Node → Bool
takes_passed plan from node = is_barrier_kind node.kind && list_any (takes_from from (passed_nodes plan from)) node.inputs

-- Outputs of `from` reach this barrier, with no other between. Of a source 0, a ParDo 1 of it, a Group 2 of that and a Write 3 of the Group, the source reaches
-- 2, and the Group 3.
abbrev pub reaches_barrier : Plan → ℕ → ℕ → Bool
reaches_barrier plan from node = unwrap_or (option_map (takes_passed plan from) (slice_get plan.nodes node)) false

-- an output of `from` arrives at a barrier that `from` reaches, or it is poison
abbrev pub ReachesBarrier : Plan → ℕ → Output → Type 0
ReachesBarrier plan from (Arrives arrival) = reaches_barrier plan from arrival.node ≡ true
ReachesBarrier plan from (PoisonAt node) = Unit {0}
