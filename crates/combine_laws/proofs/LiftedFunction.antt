-- The function of a lifted plan: the only follower of the only Group, and it folds.
use Rattle.std.proofs.Common.{◌≡◌, ℕ, true, List, [], ◌∷◌, Some, refl}
use Rattle.beam_values.specs.declared.plan.FnKind.{FnKind}
use Rattle.beam_values.specs.declared.plan.NodeKind.{NodeKind}
use Rattle.beam_values.specs.declared.plan.NodeKind.TheVariants.{Source, ParDo, Flatten, WindowInto, Group, Stateful, Write}
use Rattle.beam_values.specs.declared.plan.Plan.{Plan}
use Rattle.pipeline_graph.specs.Followers.{followers_of}
use Rattle.combine_lift.specs.Lifting.{IsLiftable, is_fold_kind, is_only_fold, only_group}
use Rattle.combine_laws.specs.Combined.{HasFunction}
use Rattle.combine_laws.proofs.Reach.{IsThere, there_of}

pub record HasSomeFunction (plan : Plan) (group : ℕ) : Type 0 where
  pub function : ℕ
  pub work : FnKind
  pub has : HasFunction plan group function work

module _ (plan : Plan) (group : ℕ) (only : only_group plan.nodes ≡ Some group) where
  of_kind : (function : ℕ) → followers_of plan group ≡ function ∷ [] → (there : IsThere is_fold_kind plan function) (kind : NodeKind) → there.node.kind ≡ kind → is_fold_kind kind ≡ true → HasSomeFunction plan group
  of_kind function followers there (ParDo work args) is folds = record {
    function = function;
    work = work;
    has = record { only = only; followers = followers; node = there.node; args = args; there = there.there; kind = is; folds = folds };
  }
  of_kind function followers there (Source work args files estimator) is folds = absurd cc
  of_kind function followers there Flatten is folds = absurd cc
  of_kind function followers there (WindowInto strategy) is folds = absurd cc
  of_kind function followers there (Group trigger) is folds = absurd cc
  of_kind function followers there (Stateful work args log) is folds = absurd cc
  of_kind function followers there (Write label) is folds = absurd cc

  of_followers : (followers : List ℕ) → followers_of plan group ≡ followers → is_only_fold plan followers ≡ true → HasSomeFunction plan group
  of_followers [] is folds = absurd cc
  of_followers (function ∷ []) is folds =
      let there : IsThere is_fold_kind plan function = there_of is_fold_kind plan function folds in
      of_kind function is there there.node.kind refl there.passed
  of_followers (function ∷ other ∷ followers) is folds = absurd cc

-- a lifted plan has a function
pub lifted_function : (plan : Plan) (liftable : IsLiftable plan) → HasSomeFunction plan liftable.group
lifted_function plan liftable = of_followers plan liftable.group liftable.only (followers_of plan liftable.group) refl liftable.follower
