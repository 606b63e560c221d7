-- Side inputs whose windows merge, as far as a loop has come.
use Rattle.std.proofs.Common.{◌≡◌, ℕ, suc, Bool, true, false, cond, ◌+◌, ◌*◌, ◌<◌, ◌≤◌, List, length, drop, get_or, Option, Some, None, Ok, Err, refl, sym, ap, ◌∙◌, drop-cons, add-one, arith}
use Rattle.std.specs.Option.{option_map_or}
use Rattle.std.proofs.lemmas.List.{drop_all}
use Rattle.std.proofs.lemmas.List.Sums.{sum_by-cons}
use Rattle.beam_values.specs.declared.plan.Plan.{Plan}
use Rattle.beam_values.specs.Checked.{graph_refusal}
use Rattle.beam_values.specs.declared.graph_refusal.GraphRefusal.{GraphRefusal}
use Rattle.plan_reader.specs.Documents.{graph_of, plan_version, unmerged}
use Rattle.plan_reader.specs.Forms.{◌>>=◌}
use Rattle.plan_reader.specs.Places.{in_node}
use Rattle.plan_reader.specs.Placing.{merges, node_count, places_of, plan_nodes, side_refusal, width}
use Rattle.plan_reader.specs.declared.placing.DocumentNode.{DocumentNode}
use Rattle.plan_reader.specs.declared.refusal.PlanKey.TheVariants as key
use Rattle.plan_reader.specs.declared.refusal.PlanRefusal.{PlanRefusal}
use Rattle.plan_reader.specs.declared.refusal.PlanRefusal.TheVariants.{Name, Graph}
use Rattle.plan_reader.proofs.Placed.{few_width, nodes_counted}

-- So many nodes don't merge, and the next one has this number in the plan.
pub record IsUnmergedTo (plan : Plan) (nodes : List DocumentNode) (count first : ℕ) : Type 0 where
  pub rest : side_refusal plan count first (drop count nodes) ≡ side_refusal plan 0 0 nodes
  pub few : first ≤ 5 * count
  pub counted : first + node_count (drop count nodes) ≡ length plan.nodes

pub none_unmerged : (plan : Plan) (nodes : List DocumentNode) → plan.nodes ≡ plan_nodes nodes → IsUnmergedTo plan nodes 0 0
none_unmerged plan nodes read =
    record { rest = refl; few = omega arith; counted = let whole = nodes_counted (places_of nodes) 0 nodes in let same : length plan.nodes ≡ length (plan_nodes nodes) = ap length read in omega arith }

refused_next : (plan : Plan) (nodes : List DocumentNode) (i first : ℕ) (d : DocumentNode) → i < length nodes
    → side_refusal plan i first (drop i nodes)
    ≡ cond (merges plan first (get_or nodes i d)) (Some (Name (in_node i key.View))) (side_refusal plan (i + 1) (first + width (get_or nodes i d)) (drop (i + 1) nodes))
refused_next plan nodes i first d inside = rw (drop-cons nodes i d inside, add-one) refl

counted_next : (nodes : List DocumentNode) (i : ℕ) (d : DocumentNode) → i < length nodes
    → node_count (drop i nodes) ≡ width (get_or nodes i d) + node_count (drop (i + 1) nodes)
counted_next nodes i d inside = rw (drop-cons nodes i d inside, add-one) (sum_by-cons width (get_or nodes i d) (drop (suc i) nodes))

pub some_left : (plan : Plan) (nodes : List DocumentNode) (i first : ℕ) (d : DocumentNode) → i < length nodes → IsUnmergedTo plan nodes i first
    → first + width (get_or nodes i d) ≤ length plan.nodes
some_left plan nodes i first d inside so_far = let more = counted_next nodes i d inside in let whole = so_far.counted in omega arith

pub one_unmerged : (plan : Plan) (nodes : List DocumentNode) (i first : ℕ) (d : DocumentNode) → i < length nodes → merges plan first (get_or nodes i d) ≡ false
    → IsUnmergedTo plan nodes i first → IsUnmergedTo plan nodes (i + 1) (first + width (get_or nodes i d))
one_unmerged plan nodes i first d inside kept so_far =
    let more = counted_next nodes i d inside in
    let whole = so_far.counted in
    let few = so_far.few in
    let narrow = few_width (get_or nodes i d) in
    record {
      rest =
          sym
          (refused_next plan nodes i first d inside
          ∙ ap (λ (b : Bool). cond b (Some (Name (in_node i key.View))) (side_refusal plan (i + 1) (first + width (get_or nodes i d)) (drop (i + 1) nodes))) kept)
          ∙ so_far.rest;
      few = omega arith;
      counted = omega arith;
    }

pub one_merges : (plan : Plan) (nodes : List DocumentNode) (i first : ℕ) (d : DocumentNode) → i < length nodes → merges plan first (get_or nodes i d) ≡ true
    → IsUnmergedTo plan nodes i first → side_refusal plan 0 0 nodes ≡ Some (Name (in_node i key.View))
one_merges plan nodes i first d inside merged so_far =
    sym so_far.rest
    ∙ refused_next plan nodes i first d inside
    ∙ ap (λ (b : Bool). cond b (Some (Name (in_node i key.View))) (side_refusal plan (i + 1) (first + width (get_or nodes i d)) (drop (i + 1) nodes))) merged

pub all_unmerged : (plan : Plan) (nodes : List DocumentNode) (i first : ℕ) → length nodes ≤ i → IsUnmergedTo plan nodes i first → side_refusal plan 0 0 nodes ≡ None
all_unmerged plan nodes i first past so_far = sym so_far.rest ∙ ap (side_refusal plan i first) (drop_all i nodes past)

-- ---- the plan that is read

kept_as : (o : Option PlanRefusal) (plan graph : Plan) → option_map_or (λ refusal. Err refusal) o (Ok plan) ≡ Ok graph → graph ≡ plan
kept_as None plan graph e = cc
kept_as (Some r) plan graph e = absurd cc

checked_as : (o : Option GraphRefusal) (plan graph : Plan) (nodes : List DocumentNode) → (option_map_or (λ refusal. Err (Graph refusal)) o (Ok plan) >>= unmerged nodes) ≡ Ok graph → graph ≡ plan
checked_as None plan graph nodes e = kept_as (side_refusal plan 0 0 nodes) plan graph e
checked_as (Some r) plan graph nodes e = absurd cc

-- a pipeline that is read is the plan that was checked
pub same_plan : (version : ℕ) (nodes : List DocumentNode) (graph : Plan) → graph_of version nodes ≡ Ok graph
    → graph ≡ record { version = plan_version version; nodes = plan_nodes nodes }
same_plan version nodes graph e = let plan : Plan = record { version = plan_version version; nodes = plan_nodes nodes } in checked_as (graph_refusal plan) plan graph nodes e

kept_none : (o : Option PlanRefusal) (plan graph : Plan) → option_map_or (λ refusal. Err refusal) o (Ok plan) ≡ Ok graph → o ≡ None
kept_none None plan graph e = refl
kept_none (Some r) plan graph e = absurd cc

checked_none : (o : Option GraphRefusal) (plan graph : Plan) (nodes : List DocumentNode) → (option_map_or (λ refusal. Err (Graph refusal)) o (Ok plan) >>= unmerged nodes) ≡ Ok graph
    → side_refusal plan 0 0 nodes ≡ None
checked_none None plan graph nodes e = kept_none (side_refusal plan 0 0 nodes) plan graph e
checked_none (Some r) plan graph nodes e = absurd cc

-- no side input of a pipeline that is read merges
pub all_kept : (version : ℕ) (nodes : List DocumentNode) (graph : Plan) → graph_of version nodes ≡ Ok graph → side_refusal graph 0 0 nodes ≡ None
all_kept version nodes graph e =
    let plan : Plan = record { version = plan_version version; nodes = plan_nodes nodes } in
    ap (λ (p : Plan). side_refusal p 0 0 nodes) (same_plan version nodes graph e) ∙ checked_none (graph_refusal plan) plan graph nodes e

pub ruleset merging_turns = (none_unmerged, some_left, one_unmerged, one_merges, all_unmerged)
