-- Where the side inputs of a document that is read stand in its plan.
use Rattle.std.proofs.Common.{◌≡◌, ◌⊎◌, inl, inr, ℕ, zero, suc, Bool, true, false, cond, ◌+◌, ◌<◌, ◌≤◌, List, [], ◌∷◌, ◌++◌, length, take, drop, get_or, Option, Some, None, Ok, Err, ok_or, pos, refl, sym, ap, subst, ◌∙◌, append_assoc, length-append, nat_lt, arith}
use Rattle.std.specs.Prelude.{slice_get}
use Rattle.std.specs.Option.{option_map_or}
use Rattle.std.proofs.Math.Seq.{drop-append_seam, get_or-append_seam}
use Rattle.std.proofs.lemmas.List.Elements.{All-head}
use Rattle.std.proofs.lemmas.List.Sums.{sum_by-cons}
use Rattle.std.proofs.lemmas.Option.{slice_get-get_or}
use Rattle.serde_json.specs.Data.{Data}
use Rattle.beam_values.specs.Checked.{IsChecked}
use Rattle.beam_values.specs.Nodes.{strategy_of}
use Rattle.beam_values.specs.declared.plan.Args.TheVariants.{Number}
use Rattle.beam_values.specs.declared.plan.FnKind.TheVariants.{Tag}
use Rattle.beam_values.specs.declared.plan.Node.{Node}
use Rattle.beam_values.specs.declared.plan.NodeKind.TheVariants.{ParDo}
use Rattle.beam_values.specs.declared.plan.Plan.{Plan}
use Rattle.beam_model.specs.Panes.{is_sessions}
use Rattle.beam_model.specs.Plans.{node as plan_node}
use Rattle.pipeline_graph.proofs.CheckedPlans.{inputs_lower}
use Rattle.side_inputs.specs.Nodes.{IsSideAt, side_nodes}
use Rattle.side_inputs.specs.declared.nodes.ViewMode.{ViewMode}
use Rattle.plan_reader.specs.Documents.{array_of, document_nodes_of, document_of, graph_of, json_of, longest_document, plan_of, read_nodes_of, version_of}
use Rattle.plan_reader.specs.Forms.{◌>>=◌}
use Rattle.plan_reader.specs.Nodes.{names_of, nodes_of}
use Rattle.plan_reader.specs.Places.{in_node}
use Rattle.plan_reader.specs.Placing.{merges, node_count, nodes_at, nodes_from, place_at, places_from, places_of, plan_nodes, side_refusal, width}
use Rattle.plan_reader.specs.Refusals.{Meaning}
use Rattle.plan_reader.specs.declared.placing.DocumentNode.{DocumentNode}
use Rattle.plan_reader.specs.declared.placing.DocumentNode.TheVariants.{Side}
use Rattle.plan_reader.specs.declared.refusal.PlanKey.TheVariants as key
use Rattle.plan_reader.specs.declared.refusal.PlanRefusal.{PlanRefusal}
use Rattle.plan_reader.specs.declared.refusal.PlanRefusal.TheVariants.{Length, Name, Syntax}
use Rattle.plan_reader.proofs.Documents.{are_pipelines}
use Rattle.plan_reader.proofs.Merging.{all_kept, same_plan}
use Rattle.plan_reader.proofs.Placed.{nodes_counted, some_width}

-- ---- the nodes of a document that is read

-- these nodes of some version are read as this plan
abbrev IsGraphOf : List DocumentNode → Plan → Type 0
IsGraphOf nodes plan = (version : ℕ) × (graph_of version nodes ≡ Ok plan)

by_nodes : (m : Meaning (List DocumentNode)) (version : ℕ) (plan : Plan) (nodes : List DocumentNode) → (m >>= graph_of version) ≡ Ok plan → m ≡ Ok nodes → IsGraphOf nodes plan
by_nodes (Ok read) version plan nodes e f = let same : read ≡ nodes = cc in (version, subst (λ (ns : List DocumentNode). graph_of version ns ≡ Ok plan) same e)
by_nodes (Err r) version plan nodes e f = absurd cc

by_names : (m : Meaning (List (List ℕ))) (version : ℕ) (array : List Data) (plan : Plan) (nodes : List DocumentNode)
    → (m >>= λ names. nodes_of version names array >>= graph_of version) ≡ Ok plan → (m >>= λ names. nodes_of version names array) ≡ Ok nodes → IsGraphOf nodes plan
by_names (Ok names) version array plan nodes e f = by_nodes (nodes_of version names array) version plan nodes e f
by_names (Err r) version array plan nodes e f = absurd cc

by_array : (m : Meaning (List Data)) (version : ℕ) (plan : Plan) (nodes : List DocumentNode)
    → (m >>= λ array. names_of array >>= λ names. nodes_of version names array >>= graph_of version) ≡ Ok plan
    → (m >>= λ array. names_of array >>= λ names. nodes_of version names array) ≡ Ok nodes → IsGraphOf nodes plan
by_array (Ok array) version plan nodes e f = by_names (names_of array) version array plan nodes e f
by_array (Err r) version plan nodes e f = absurd cc

by_version : (m : Meaning ℕ) (d : Data) (plan : Plan) (nodes : List DocumentNode)
    → (m >>= λ version. array_of d >>= λ array. names_of array >>= λ names. nodes_of version names array >>= graph_of version) ≡ Ok plan
    → (m >>= λ version. array_of d >>= λ array. names_of array >>= λ names. nodes_of version names array) ≡ Ok nodes → IsGraphOf nodes plan
by_version (Ok version) d plan nodes e f = by_array (array_of d) version plan nodes e f
by_version (Err r) d plan nodes e f = absurd cc

by_text : (o : Option Data) (long : Bool) (len : ℕ) (plan : Plan) (nodes : List DocumentNode)
    → option_map_or (λ refusal. Err refusal) (cond long (Some (Length len)) None) (ok_or o Syntax >>= plan_of) ≡ Ok plan → (ok_or o Syntax >>= read_nodes_of) ≡ Ok nodes
    → IsGraphOf nodes plan
by_text o true len plan nodes e f = absurd cc
by_text None false len plan nodes e f = absurd cc
by_text (Some d) false len plan nodes e f = by_version (version_of d) d plan nodes e f

graph_read : (bytes : List ℕ) (plan : Plan) (nodes : List DocumentNode) → document_of bytes ≡ Ok plan → document_nodes_of bytes ≡ Ok nodes → IsGraphOf nodes plan
graph_read bytes plan nodes e f = by_text (json_of bytes) (nat_lt longest_document (length bytes)) (length bytes) plan nodes e f

-- ---- windows that don't merge

not_first : (b : Bool) (number : ℕ) (o : Option PlanRefusal) → cond b (Some (Name (in_node number key.View))) o ≡ None → (b ≡ false) × (o ≡ None)
not_first true number o e = absurd cc
not_first false number o e = (refl, e)

unmerged_at : (plan : Plan) (number first at : ℕ) (before after : List DocumentNode) (main view : ℕ) (mode : ViewMode) → at ≡ first + node_count before
    → side_refusal plan number first (before ++ Side main view mode ∷ after) ≡ None → is_sessions (strategy_of plan (at + 3)) ≡ false
unmerged_at plan number first at [] after main view mode is e =
    let same : first ≡ at = omega arith in
    subst (λ (n : ℕ). is_sessions (strategy_of plan (n + 3)) ≡ false) same (not_first (is_sessions (strategy_of plan (first + 3))) number _ e).0
unmerged_at plan number first at (node ∷ before) after main view mode is e =
    let whole = sum_by-cons width node before in
    unmerged_at plan (number + 1) (first + width node) at before after main view mode (omega arith) (not_first (merges plan first node) number _ e).1

-- ---- nodes

nodes_from-append : (places : List ℕ) (first at : ℕ) (before later : List DocumentNode) → at ≡ first + node_count before
    → nodes_from places first (before ++ later) ≡ nodes_from places first before ++ nodes_from places at later
nodes_from-append places first at [] later is = let same : first ≡ at = omega arith in ap (λ (n : ℕ). nodes_from places n later) same
nodes_from-append places first at (node ∷ before) later is =
    let whole = sum_by-cons width node before in
    ap (λ (ns : List Node). nodes_at places first node ++ ns) (nodes_from-append places (first + width node) at before later (omega arith))
    ∙ sym (append_assoc (nodes_at places first node) (nodes_from places (first + width node) before) (nodes_from places at later))

at_seam : (xs : List Node) (y : Node) (ys : List Node) → slice_get (xs ++ y ∷ ys) (length xs) ≡ Some y
at_seam xs y ys =
    slice_get-get_or (xs ++ y ∷ ys) (length xs) y (omega (arith, length-append xs (y ∷ ys))) ∙ ap (λ (node : Node). Some node) (get_or-append_seam xs y ys y)

after_seam : (xs : List Node) (y z : Node) (ys : List Node) → slice_get (xs ++ y ∷ z ∷ ys) (length xs + 1) ≡ Some z
after_seam xs y z ys =
    subst (λ (n : ℕ). slice_get (xs ++ y ∷ z ∷ ys) n ≡ Some z) (length-append xs (y ∷ []))
    (ap (λ (ns : List Node). slice_get ns (length (xs ++ y ∷ []))) (sym (append_assoc xs (y ∷ []) (z ∷ ys))) ∙ at_seam (xs ++ y ∷ []) z ys)

-- ---- places

later_place : (first : ℕ) (nodes : List DocumentNode) (n : ℕ) → (first ≤ get_or (places_from first nodes) n 0) ⊎ (get_or (places_from first nodes) n 0 ≡ 0)
later_place first [] n = inr refl
later_place first (node ∷ nodes) zero = let some = some_width node in inl (omega arith)
later_place first (node ∷ nodes) (suc n) = by (later_place (first + width node) nodes n)
  where
    by : (first + width node ≤ get_or (places_from (first + width node) nodes) n 0) ⊎ (get_or (places_from (first + width node) nodes) n 0 ≡ 0)
        → (first ≤ get_or (places_from (first + width node) nodes) n 0) ⊎ (get_or (places_from (first + width node) nodes) n 0 ≡ 0)
    by (inl above) = inl (omega arith)
    by (inr none) = inr none

-- no place is that of a node of a side input, but for its last
beside : (first at : ℕ) (before : List DocumentNode) (node : DocumentNode) (after : List DocumentNode) (n : ℕ) → at ≡ first + node_count before
    → (get_or (places_from first (before ++ node ∷ after)) n 0 < at) ⊎ (at + width node ≤ get_or (places_from first (before ++ node ∷ after)) n 0 + 1)
    ⊎ (get_or (places_from first (before ++ node ∷ after)) n 0 ≡ 0)
beside first at [] node after zero is = let some = some_width node in inr (inl (omega arith))
beside first at [] node after (suc n) is = by (later_place (first + width node) after n)
  where
    by : (first + width node ≤ get_or (places_from (first + width node) after) n 0) ⊎ (get_or (places_from (first + width node) after) n 0 ≡ 0)
        → (get_or (places_from (first + width node) after) n 0 < at) ⊎ (at + width node ≤ get_or (places_from (first + width node) after) n 0 + 1)
        ⊎ (get_or (places_from (first + width node) after) n 0 ≡ 0)
    by (inl above) = inr (inl (omega arith))
    by (inr none) = inr (inr none)
beside first at (other ∷ before) node after zero is =
    let some = some_width other in
    let whole = sum_by-cons width other before in
    inl (omega arith)
beside first at (other ∷ before) node after (suc n) is =
    let whole = sum_by-cons width other before in
    beside (first + width other) at before node after n (omega arith)

before_it : (place first : ℕ) → (place < first) ⊎ (first + 5 ≤ place + 1) ⊎ (place ≡ 0) → place ≤ first → 0 < first → place < first
before_it place first (inl lower) le some = lower
before_it place first (inr (inl above)) le some = absurd (omega arith)
before_it place first (inr (inr none)) le some = omega arith

-- ---- both

module _ (plan : Plan) (before after : List DocumentNode) (main view : ℕ) (mode : ViewMode) where
  abbrev all : List DocumentNode
  all = before ++ Side main view mode ∷ after

  abbrev first : ℕ
  first = node_count before

  abbrev earlier : List Node
  earlier = nodes_from (places_of all) 0 before

  abbrev later : List Node
  later = nodes_from (places_of all) (first + 5) after

  abbrev five : List Node
  five = side_nodes (place_at (places_of all) main) (place_at (places_of all) view) first mode

  split : plan.nodes ≡ plan_nodes all → plan.nodes ≡ earlier ++ (five ++ later)
  split same = same ∙ nodes_from-append (places_of all) 0 first before (Side main view mode ∷ after) (omega arith)

  counted : length earlier ≡ first
  counted = nodes_counted (places_of all) 0 before

  -- what tags the main input, and what tags the view
  main_taken : plan.nodes ≡ plan_nodes all → slice_get plan.nodes first ≡ Some (plan_node (ParDo Tag (Number (pos 1))) (place_at (places_of all) main ∷ []))
  main_taken same =
      ap (λ (ns : List Node). slice_get ns first) (split same)
      ∙ ap (λ (n : ℕ). slice_get (earlier ++ (five ++ later)) n) (sym counted)
      ∙ at_seam earlier _ _

  view_taken : plan.nodes ≡ plan_nodes all → slice_get plan.nodes (first + 1) ≡ Some (plan_node (ParDo Tag (Number (pos 0))) (place_at (places_of all) view ∷ []))
  view_taken same =
      ap (λ (ns : List Node). slice_get ns (first + 1)) (split same)
      ∙ ap (λ (n : ℕ). slice_get (earlier ++ (five ++ later)) (n + 1)) (sym counted)
      ∙ after_seam earlier _ _ _

  main_lower : IsChecked plan → plan.nodes ≡ plan_nodes all → place_at (places_of all) main < first
  main_lower checked same = All-head (λ input. input < first) (place_at (places_of all) main) [] (inputs_lower plan first _ checked (main_taken same))

  view_lower : IsChecked plan → plan.nodes ≡ plan_nodes all → place_at (places_of all) view < first + 1
  view_lower checked same = All-head (λ input. input < first + 1) (place_at (places_of all) view) [] (inputs_lower plan (first + 1) _ checked (view_taken same))

  pub placed_at : IsChecked plan → plan.nodes ≡ plan_nodes all → side_refusal plan 0 0 all ≡ None
      → IsSideAt plan first (place_at (places_of all) main) (place_at (places_of all) view) mode
  placed_at checked same kept =
      let lower = main_lower checked same in
      let near = view_lower checked same in
      record {
        nodes =
            ap (λ (ns : List Node). take 5 (drop first ns)) (split same)
            ∙ ap (λ (n : ℕ). take 5 (drop n (earlier ++ (five ++ later)))) (sym counted)
            ∙ ap (take 5) (drop-append_seam earlier (five ++ later));
        main_before = lower;
        view_before = before_it (place_at (places_of all) view) first (beside 0 first before (Side main view mode) after view (omega arith)) (omega arith) (omega arith);
        unmerged = unmerged_at plan 0 0 first before after main view mode (omega arith) kept;
      }

pub sides_placed : (bytes : List ℕ) (plan : Plan) (before after : List DocumentNode) (main view : ℕ) (mode : ViewMode) → document_of bytes ≡ Ok plan
    → document_nodes_of bytes ≡ Ok (before ++ Side main view mode ∷ after)
    → (let places = places_of (before ++ Side main view mode ∷ after) in IsSideAt plan (node_count before) (place_at places main) (place_at places view) mode)
sides_placed bytes plan before after main view mode e f =
    let nodes : List DocumentNode = before ++ Side main view mode ∷ after in
    let read = graph_read bytes plan nodes e f in
    placed_at plan before after main view mode (are_pipelines bytes plan e) (ap (λ (p : Plan). p.nodes) (same_plan read.0 nodes plan read.1)) (all_kept read.0 nodes plan read.1)
