-- The function of a lifted plan, where the Group was looked for and then what follows it.
use Rattle.std.proofs.Common.{◌≡◌, ℕ, Bool, true, false, cond, List, [], ◌∷◌, sym, ap, subst, ◌∙◌}
use Rattle.std.specs.Prelude.{Option, Some, None, slice_index_or}
use Rattle.std.specs.List.{position}
use Rattle.std.proofs.lemmas.Option.{get_or_from_slice_get}
use Rattle.beam_values.specs.Checked.{IsChecked}
use Rattle.beam_values.specs.Nodes.{is_group_kind}
use Rattle.beam_values.specs.declared.plan.Args.{Args}
use Rattle.beam_values.specs.declared.plan.FnKind.{FnKind}
use Rattle.beam_values.specs.declared.plan.Node.{Node}
use Rattle.beam_values.specs.declared.plan.NodeKind.TheVariants.{ParDo}
use Rattle.beam_values.specs.declared.plan.Plan.{Plan}
use Rattle.pipeline_graph.specs.Followers.{followers_of}
use Rattle.combine_lift.specs.Lifting.{IsLiftable}
use Rattle.combine_laws.specs.Combined.{HasFunction}
use Rattle.combine_laws.proofs.LiftedFunction.{HasSomeFunction, lifted_function}
use Rattle.combine_plan.specs.Lifting.{IsLiftedAt}

abbrev pub first_group : List Node → Option ℕ
first_group nodes = position (λ node. is_group_kind node.kind) nodes

-- what is found under a condition is found
found_so : (only : Bool) (found : Option ℕ) (group : ℕ) → cond only found None ≡ Some group → found ≡ Some group
found_so true found group is = is
found_so false found group is = absurd cc

module _ (plan : Plan) (liftable : IsLiftable plan) (nodes : List Node) (group : ℕ) (followers : List ℕ) (same : nodes ≡ plan.nodes) (first : Some group ≡ first_group nodes)
    (follow : followers ≡ followers_of plan group) where
  has_some : HasSomeFunction plan liftable.group
  has_some = lifted_function plan liftable

  same_group : group ≡ liftable.group
  same_group = let is : Some group ≡ Some liftable.group = first ∙ ap first_group same ∙ found_so _ (first_group plan.nodes) liftable.group liftable.only in cc

  only_one : followers ≡ has_some.function ∷ []
  only_one = follow ∙ ap (followers_of plan) same_group ∙ has_some.has.followers

  function_is : slice_index_or followers 0 0 ≡ has_some.function
  function_is = ap (λ (fs : List ℕ). slice_index_or fs 0 0) only_one

  kind_is : (default : Node) → (slice_index_or nodes (slice_index_or followers 0 0) default).kind ≡ ParDo has_some.work has_some.has.args
  kind_is default =
      ap (λ (ns : List Node). (slice_index_or ns (slice_index_or followers 0 0) default).kind) same
      ∙ ap (λ (n : ℕ). (slice_index_or plan.nodes n default).kind) function_is
      ∙ ap (λ (node : Node). node.kind) (get_or_from_slice_get plan.nodes has_some.function has_some.has.node default has_some.has.there)
      ∙ has_some.has.kind

  -- it is a ParDo
  pub is_function : (default : Node) → ((work : FnKind) (args : Args) → (slice_index_or nodes (slice_index_or followers 0 0) default).kind ≡ ParDo work args → ⊥) → ⊥
  is_function default not = not has_some.work has_some.has.args (kind_is default)

  pub lifted_at : (default : Node) (work : FnKind) (args : Args) → IsChecked plan → (slice_index_or nodes (slice_index_or followers 0 0) default).kind ≡ ParDo work args
      → IsLiftedAt plan (slice_index_or followers 0 0) work
  lifted_at default work args checked is =
      let same_kind : ParDo has_some.work has_some.has.args ≡ ParDo work args = sym (kind_is default) ∙ is in
      let same_work : has_some.work ≡ work = cc in
      record {
        checked = checked;
        liftable = liftable;
        group = liftable.group;
        has = subst (HasFunction plan liftable.group (slice_index_or followers 0 0)) same_work
            (subst (λ (n : ℕ). HasFunction plan liftable.group n has_some.work) (sym function_is) has_some.has);
      }
