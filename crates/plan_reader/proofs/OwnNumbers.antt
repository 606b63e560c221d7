-- Where a document has no side input, each of its nodes is one node of the plan, so its two numbers are one, and the plan has the nodes as they were read.
use Rattle.std.proofs.Common.{◌≡◌, ℕ, zero, suc, ◌+◌, ◌<◌, List, [], ◌∷◌, ◌++◌, length, get_or, map, refl, ap, ap₂, ◌∙◌, arith}
use Rattle.std.specs.Prelude.{All}
use Rattle.std.specs.List.{AllByRecursion}
use Rattle.std.proofs.lemmas.List.Elements.{All-head, All-tail}
use Rattle.beam_values.specs.declared.plan.Node.{Node}
use Rattle.beam_values.specs.declared.plan.NodeKind.TheVariants.{Flatten}
use Rattle.side_inputs.specs.declared.nodes.ViewMode.TheVariants as mode
use Rattle.plan_reader.specs.Placing.{HasInputsWithin, nodes_at, nodes_from, places_from, places_of, plan_names, plan_nodes, width}
use Rattle.plan_reader.specs.declared.placing.DocumentNode.{DocumentNode}
use Rattle.plan_reader.specs.declared.placing.DocumentNode.TheVariants.{Plain, Side}

abbrev IsPlain : DocumentNode → Type 0
IsPlain (Plain node) = Unit {0}
IsPlain (Side main view mode) = ⊥

abbrev ArePlain : List DocumentNode → Type 0
ArePlain nodes = AllByRecursion IsPlain nodes

own_place : (first n : ℕ) (nodes : List DocumentNode) → ArePlain nodes → n < length nodes → get_or (places_from first nodes) n 0 ≡ first + n
own_place first n [] plain inside = absurd (omega arith)
own_place first zero (Plain node ∷ nodes) plain inside = omega arith
own_place first (suc n) (Plain node ∷ nodes) plain inside = own_place (first + 1) n nodes plain.1 (omega arith) ∙ omega arith
own_place first n (Side main view mode ∷ nodes) plain inside = absurd plain.0

own_inputs : (nodes : List DocumentNode) (inputs : List ℕ) → ArePlain nodes → All (λ input. input < length nodes) inputs
    → map (λ input. get_or (places_of nodes) input 0) inputs ≡ inputs
own_inputs nodes [] plain within = refl
own_inputs nodes (input ∷ inputs) plain within =
    let first : get_or (places_of nodes) input 0 ≡ input = own_place 0 input nodes plain (All-head (λ i. i < length nodes) input inputs within) ∙ omega arith in
    ap₂ (λ (x : ℕ) (xs : List ℕ). x ∷ xs) first (own_inputs nodes inputs plain (All-tail (λ i. i < length nodes) input inputs within))

abbrev as_read : DocumentNode → List Node
as_read (Plain node) = node ∷ []
as_read (Side main view mode) = []

abbrev all_as_read : List DocumentNode → List Node
all_as_read [] = []
all_as_read (node ∷ nodes) = as_read node ++ all_as_read nodes

own_node : (nodes : List DocumentNode) (first : ℕ) (node : DocumentNode) → ArePlain nodes → IsPlain node → HasInputsWithin (length nodes) node
    → nodes_at (places_of nodes) first node ≡ as_read node
own_node nodes first (Plain node) plain is within = ap (λ (inputs : List ℕ). record { kind = node.kind; inputs = inputs } ∷ []) (own_inputs nodes node.inputs plain within)
own_node nodes first (Side main view mode) plain is within = absurd is

own_nodes : (nodes : List DocumentNode) (first : ℕ) (later : List DocumentNode) → ArePlain nodes → ArePlain later → All (HasInputsWithin (length nodes)) later
    → nodes_from (places_of nodes) first later ≡ all_as_read later
own_nodes nodes first [] plain are within = refl
own_nodes nodes first (node ∷ later) plain are within =
    ap₂ (λ (xs ys : List Node). xs ++ ys) (own_node nodes first node plain are.0 (All-head (HasInputsWithin (length nodes)) node later within))
    (own_nodes nodes (first + width node) later plain are.1 (All-tail (HasInputsWithin (length nodes)) node later within))

nodes_as_read : (nodes : List DocumentNode) → ArePlain nodes → All (HasInputsWithin (length nodes)) nodes → plan_nodes nodes ≡ all_as_read nodes
nodes_as_read nodes plain within = own_nodes nodes 0 nodes plain plain within

names_as_read : (names : List (List ℕ)) (nodes : List DocumentNode) → ArePlain nodes → length names ≡ length nodes → plan_names names nodes ≡ names
names_as_read [] [] plain same = refl
names_as_read [] (node ∷ nodes) plain same = absurd (omega (arith, same))
names_as_read (name ∷ names) [] plain same = absurd (omega (arith, same))
names_as_read (name ∷ names) (Plain node ∷ nodes) plain same = ap (λ (rest : List (List ℕ)). name ∷ rest) (names_as_read names nodes plain.1 (omega (arith, same)))
names_as_read (name ∷ names) (Side main view mode ∷ nodes) plain same = absurd plain.0

-- three nodes, of which the first takes from the last
three : places_of (Plain (record { kind = Flatten; inputs = 2 ∷ [] }) ∷ Plain (record { kind = Flatten; inputs = [] }) ∷ Plain (record { kind = Flatten; inputs = [] }) ∷ []) ≡ 0 ∷ 1 ∷ 2 ∷ []
three = refl

-- the name of a side input stands for its last node
around_a_side : places_of (Plain (record { kind = Flatten; inputs = [] }) ∷ Side 0 0 mode.List ∷ Plain (record { kind = Flatten; inputs = [] }) ∷ []) ≡ 0 ∷ 5 ∷ 6 ∷ []
around_a_side = refl
