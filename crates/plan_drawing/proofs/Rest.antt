-- What is left to draw from a node on.
use Rattle.std.proofs.Common.{◌≡◌, ℕ, ◌+◌, ◌<◌, List, ◌++◌, length, drop, get_or, refl, drop-cons, add-one}
use Rattle.std.specs.List.{enumerate_from, flat_map, zip}
use Rattle.beam_values.specs.declared.plan.Node.{Node}
use Rattle.plan_drawing.specs.Drawing.{box_of, edges_of}

abbrev pub boxes_from : ℕ → List (List ℕ) → List Node → List ℕ
boxes_from i names nodes = flat_map (λ entry. box_of entry.0 entry.1.0 entry.1.1) (enumerate_from i (zip names nodes))

abbrev pub edges_from : ℕ → List Node → List ℕ
edges_from i nodes = flat_map (λ entry. edges_of entry.0 entry.1) (enumerate_from i nodes)

-- the next one, and what is left then
pub next_box : (i : ℕ) (names : List (List ℕ)) (nodes : List Node) (name : List ℕ) (node : Node) → i < length names → i < length nodes
    → boxes_from i (drop i names) (drop i nodes)
    ≡ box_of i (get_or names i name) (get_or nodes i node) ++ boxes_from (i + 1) (drop (i + 1) names) (drop (i + 1) nodes)
next_box i names nodes name node h k = rw (drop-cons names i name h, drop-cons nodes i node k, add-one) refl

pub next_edges : (i : ℕ) (nodes : List Node) (node : Node) → i < length nodes
    → edges_from i (drop i nodes) ≡ edges_of i (get_or nodes i node) ++ edges_from (i + 1) (drop (i + 1) nodes)
next_edges i nodes node k = rw (drop-cons nodes i node k, add-one) refl
