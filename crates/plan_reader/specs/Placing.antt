-- From the nodes of a document to those of its plan. A node has two numbers: that of its place in the document, which refusals of the document name, and
-- that of the plan which its name stands for. A side input is five nodes of the plan, so the numbers of later nodes move up by four.
use Rattle.std.specs.Prelude.{ℕ, ◌+◌, ◌-◌, ◌<◌, Bool, false, if◌then◌else◌, List, [], ◌∷◌, ◌++◌, map, replicate, slice_index_or, sum_by, All, Option, Some, None}
use Rattle.std.specs.List.{flat_map, zip}
use Rattle.beam_values.specs.Nodes.{strategy_of}
use Rattle.beam_values.specs.declared.plan.Node.{Node}
use Rattle.beam_values.specs.declared.plan.Plan.{Plan}
use Rattle.beam_model.specs.Panes.{is_sessions}
use Rattle.side_inputs.specs.Nodes.{side_group, side_nodes}
use Rattle.side_inputs.specs.declared.nodes.ViewMode.{ViewMode}
use Rattle.plan_reader.specs.declared.placing.DocumentNode.{DocumentNode}
use Rattle.plan_reader.specs.declared.placing.DocumentNode.TheVariants.{Plain, Side}
use Rattle.plan_reader.specs.declared.refusal.PlanKey.TheVariants as key
use Rattle.plan_reader.specs.declared.refusal.PlanRefusal.{PlanRefusal}
use Rattle.plan_reader.specs.declared.refusal.PlanRefusal.TheVariants.{Name}
use Rattle.plan_reader.specs.Places.{in_node}

-- how many nodes of the plan a node is read as
abbrev pub width : DocumentNode → ℕ
width (Plain node) = 1
width (Side main view mode) = 5

-- how many nodes of the plan these are read as
abbrev pub node_count : List DocumentNode → ℕ
node_count nodes = sum_by width nodes

-- The numbers in the plan that the names of nodes stand for, where `first` is the number of the first: a name stands for the last node that its own is
-- read as. Of nodes that are read as one, five and one it is 0, 5 and 6.
abbrev pub places_from : ℕ → List DocumentNode → List ℕ
places_from first [] = []
places_from first (node ∷ nodes) = (first + width node - 1) ∷ places_from (first + width node) nodes

abbrev pub places_of : List DocumentNode → List ℕ
places_of nodes = places_from 0 nodes

-- the number in the plan of a node of the document
abbrev pub place_at : List ℕ → ℕ → ℕ
place_at places node = slice_index_or places node 0

-- the nodes of the plan that a node is read as, where nodes have these places; the first of them has the number `first`
abbrev pub nodes_at : List ℕ → ℕ → DocumentNode → List Node
nodes_at places first (Plain node) = record { kind = node.kind; inputs = map (place_at places) node.inputs } ∷ []
nodes_at places first (Side main view mode) = side_nodes (place_at places main) (place_at places view) first mode

abbrev pub nodes_from : List ℕ → ℕ → List DocumentNode → List Node
nodes_from places first [] = []
nodes_from places first (node ∷ nodes) = nodes_at places first node ++ nodes_from places (first + width node) nodes

abbrev pub plan_nodes : List DocumentNode → List Node
plan_nodes nodes = nodes_from (places_of nodes) 0 nodes

-- ---- side inputs whose windows merge

-- the Group of a side input has sessions
abbrev pub merges : Plan → ℕ → DocumentNode → Bool
merges plan first (Plain node) = false
merges plan first (Side main view mode) = is_sessions (strategy_of plan (side_group first))

-- The first such side input, of nodes of which the first one has these numbers in the document and in the plan: it is named by its number in the document.
abbrev pub side_refusal : Plan → ℕ → ℕ → List DocumentNode → Option PlanRefusal
side_refusal plan number first [] = None
side_refusal plan number first (node ∷ nodes) =
    if merges plan first node then Some (Name (in_node number key.View)) else side_refusal plan (number + 1) (first + width node) nodes

-- ---- names

-- the names of the nodes of the plan: each has that of the node which it is read from
abbrev pub plan_names : List (List ℕ) → List DocumentNode → List (List ℕ)
plan_names names nodes = flat_map (λ named. replicate (width named.1) named.0) (zip names nodes)

-- the inputs are numbers of nodes of the document, of which there are so many; for private clauses, since this is so of every document that is read
abbrev pub HasInputsWithin : ℕ → DocumentNode → Type 0
HasInputsWithin count (Plain node) = All (λ input. input < count) node.inputs
HasInputsWithin count (Side main view mode) = (main < count) × (view < count)
