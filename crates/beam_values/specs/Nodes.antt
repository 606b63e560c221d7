-- The nodes of a pipeline: of which kind each is, which stand above which, and the strategy of the windows at each (Beam Programming Guide, Creating
-- a pipeline; Windowing).
use Rattle.std.specs.Prelude.{◌≡◌, ℕ, ◌==◌, Bool, true, false, ◌||◌, List, [], ◌∷◌, ◌++◌, fold, slice_get, unwrap_or}
use Rattle.std.specs.List.{list_any}
use Rattle.std.specs.Option.{option_map}
use Rattle.beam_values.specs.declared.plan.Node.{Node}
use Rattle.beam_values.specs.declared.plan.NodeKind.{NodeKind}
use Rattle.beam_values.specs.declared.plan.NodeKind.TheVariants.{Source, ParDo, WindowInto, Group, Stateful, Write}
use Rattle.beam_values.specs.declared.plan.Plan.{Plan}
use Rattle.beam_values.specs.declared.plan.Strategy.{Strategy}
use Rattle.beam_values.specs.declared.plan.Strategy.TheVariants.{Global, Sessions, Kept}

abbrev pub is_source_kind : NodeKind → Bool
is_source_kind (Source work args files estimator) = true
is_source_kind _ = false

abbrev pub is_par_do_kind : NodeKind → Bool
is_par_do_kind (ParDo work args) = true
is_par_do_kind _ = false

abbrev pub is_group_kind : NodeKind → Bool
is_group_kind (Group trigger) = true
is_group_kind _ = false

abbrev pub is_stateful_kind : NodeKind → Bool
is_stateful_kind (Stateful work args log) = true
is_stateful_kind _ = false

abbrev pub is_write_kind : NodeKind → Bool
is_write_kind (Write label) = true
is_write_kind _ = false

-- where elements end: at a Group, a Stateful node or a Write
abbrev pub is_barrier_kind : NodeKind → Bool
is_barrier_kind (Group trigger) = true
is_barrier_kind (Stateful work args log) = true
is_barrier_kind (Write label) = true
is_barrier_kind _ = false

-- the plan has a node of this number whose kind passes a test
abbrev pub has_kind : (NodeKind → Bool) → Plan → ℕ → Bool
has_kind passes plan node = unwrap_or (option_map (λ n. passes n.kind) (slice_get plan.nodes node)) false

abbrev pub is_group : Plan → ℕ → Bool
is_group = has_kind is_group_kind

abbrev pub is_stateful : Plan → ℕ → Bool
is_stateful = has_kind is_stateful_kind

abbrev pub is_write : Plan → ℕ → Bool
is_write = has_kind is_write_kind

-- an input is the node `upper`, or a node below it; `below` says of each earlier node whether it is
abbrev pub takes_from : ℕ → List Bool → ℕ → Bool
takes_from upper below input = input == upper || unwrap_or (slice_get below input) false

abbrev pub with_below : ℕ → List Bool → Node → List Bool
with_below upper below node = below ++ list_any (takes_from upper below) node.inputs ∷ []

-- Of each node, one after another, whether it is below `upper`. Of a source 0, two ParDo nodes 1 and 2 of it, a Group 3 of the first, and Writes 4 and 5
-- of the Group and of the second, the node 1 has below it the nodes 3 and 4: false, false, false, true, true, false.
abbrev pub nodes_below : Plan → ℕ → List Bool
nodes_below plan upper = fold (with_below upper) [] plan.nodes

-- `upper` is above `node`: what it puts out can get there, by way of any nodes
abbrev pub is_above : Plan → ℕ → ℕ → Bool
is_above plan upper node = unwrap_or (slice_get (nodes_below plan upper) node) false

-- no Stateful node is above this one
abbrev pub HasNoStatefulAbove : Plan → ℕ → Type 0
HasNoStatefulAbove plan node = (upper : ℕ) → is_above plan upper node ≡ true → is_stateful plan upper ≡ false

-- what follows of a node and those above it: the strategy of its windows, and that of what it puts out
pub record NodeFacts : Type 0 where
  pub strategy : Strategy
  pub onward : Strategy

-- a Group of sessions puts out windows that no later Group merges
abbrev pub below_group : Strategy → Strategy
below_group (Sessions gap) = Kept
below_group strategy = strategy

-- of a node, where the strategy of its first input's output is `above`
abbrev pub facts_after : NodeKind → Strategy → NodeFacts
facts_after (Source work args files estimator) above = record { strategy = Global; onward = Global }
facts_after (WindowInto strategy) above = record { strategy = strategy; onward = strategy }
facts_after (Group trigger) above = record { strategy = above; onward = below_group above }
facts_after _ above = record { strategy = above; onward = above }

abbrev pub facts_at : List NodeFacts → ℕ → NodeFacts
facts_at facts node = unwrap_or (slice_get facts node) (record { strategy = Global; onward = Global })

abbrev pub first_strategy : List NodeFacts → List ℕ → Strategy
first_strategy facts [] = Global
first_strategy facts (input ∷ inputs) = (facts_at facts input).onward

abbrev pub with_facts : List NodeFacts → Node → List NodeFacts
with_facts facts node = facts ++ facts_after node.kind (first_strategy facts node.inputs) ∷ []

-- node after node; inputs come before
abbrev pub facts_of : List Node → List NodeFacts
facts_of nodes = fold with_facts [] nodes

-- the strategy of a node: Global at a source, its own at a WindowInto, and else that of its input's output
abbrev pub strategy_of : Plan → ℕ → Strategy
strategy_of plan node = (facts_at (facts_of plan.nodes) node).strategy

-- the strategy of what a node puts out: below a Group of sessions Kept, and else its own
abbrev pub onward_of : Plan → ℕ → Strategy
onward_of plan node = (facts_at (facts_of plan.nodes) node).onward
