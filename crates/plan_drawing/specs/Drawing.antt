-- A plan as a graph in the language of Graphviz.
use Rattle.std.specs.Prelude.{ℕ, List, [], ◌∷◌, ◌++◌, codes, decimal}
use Rattle.std.specs.List.{enumerate_from, flat_map, zip}
use Rattle.beam_values.specs.declared.plan.Node.{Node}
use Rattle.beam_values.specs.declared.plan.NodeKind.{NodeKind}
use Rattle.beam_values.specs.declared.plan.NodeKind.TheVariants.{Source, Write}
use Rattle.beam_values.specs.declared.plan.Plan.{Plan}
use Rattle.plan_drawing.specs.Labels.{label_of}

-- a text and LF
abbrev pub line_of : List ℕ → List ℕ
line_of text = text ++ 10 ∷ []

-- what is read and what is written stand out by their shapes
abbrev pub shape_of : NodeKind → List ℕ
shape_of (Source work args files estimator) = codes "cylinder"
shape_of (Write label) = codes "note"
shape_of _ = codes "box"

-- a node is called by n and its number
abbrev pub id_of : ℕ → List ℕ
id_of number = codes "n" ++ decimal number

-- the box of a node of this number and this name
abbrev pub box_of : ℕ → List ℕ → Node → List ℕ
box_of number name node =
    line_of (codes "  " ++ (id_of number ++ (codes " [shape=" ++ (shape_of node.kind ++ (codes ", label=\"" ++ (label_of name node.kind ++ codes "\"];"))))))

-- an arrow from an input to the node that takes from it
abbrev pub edge_of : ℕ → ℕ → List ℕ
edge_of number input = line_of (codes "  " ++ (id_of input ++ (codes " -> " ++ (id_of number ++ codes ";"))))

-- one for each input of a node
abbrev pub edges_of : ℕ → Node → List ℕ
edges_of number node = flat_map (edge_of number) node.inputs

-- the boxes of all nodes, each by its number, its name and what it is
abbrev pub boxes : List (List ℕ) → List Node → List ℕ
boxes names nodes = flat_map (λ entry. box_of entry.0 entry.1.0 entry.1.1) (enumerate_from 0 (zip names nodes))

-- the edges into all nodes
abbrev pub edges : List Node → List ℕ
edges nodes = flat_map (λ entry. edges_of entry.0 entry.1) (enumerate_from 0 nodes)

-- The drawing of a plan whose nodes have these names, each by its number.
abbrev pub drawing_of : List (List ℕ) → Plan → List ℕ
drawing_of names plan = line_of (codes "digraph plan {") ++ (boxes names plan.nodes ++ (edges plan.nodes ++ line_of (codes "}")))
