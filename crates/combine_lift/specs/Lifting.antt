-- Which plans are lifted: a function of sequences that takes the panes of the only Group can be made part by part, before the Group (Beam Programming
-- Guide, Combine; that no trigger but the default and no session is lifted is this profile's).
use Rattle.std.specs.Prelude.{◌≡◌, ℕ, ◌==◌, pos, Bool, true, false, not, ◌&&◌, if◌then◌else◌, List, [], ◌∷◌, position, is_none, Option, Some, None}
use Rattle.std.specs.List.{count_by, enumerate_from, list_any}
use Rattle.std.specs.Ordering.{int_eq}
use Rattle.beam_values.specs.Firing.{has_no_bars}
use Rattle.beam_values.specs.Nodes.{has_kind, is_group_kind, is_source_kind, is_stateful_kind, is_write_kind, strategy_of}
use Rattle.beam_values.specs.declared.plan.Mode.{Mode}
use Rattle.beam_values.specs.declared.plan.Mode.TheVariants.{Discarding, Accumulating}
use Rattle.beam_values.specs.declared.plan.Node.{Node}
use Rattle.beam_values.specs.declared.plan.NodeKind.{NodeKind}
use Rattle.beam_values.specs.declared.plan.NodeKind.TheVariants.{Group, ParDo}
use Rattle.beam_values.specs.declared.plan.Plan.{Plan}
use Rattle.beam_values.specs.declared.plan.Trigger.{Trigger}
use Rattle.beam_model.specs.Functions.{folds}
use Rattle.beam_model.specs.Panes.{is_sessions}
use Rattle.beam_model.specs.Reach.{takes_passed}
use Rattle.pipeline_graph.specs.Followers.{followers_of}
use Rattle.combine_lift.specs.declared.lifting.ShapeRefusal.{ShapeRefusal}
use Rattle.combine_lift.specs.declared.lifting.ShapeRefusal.TheVariants as refusal

-- the number of the only Group
abbrev pub only_group : List Node → Option ℕ
only_group nodes =
    if count_by (λ node. is_group_kind node.kind) nodes == 1 then position (λ node. is_group_kind node.kind) nodes else None

-- one on-time pane, and no late elements
abbrev pub is_discarding : Mode → Bool
is_discarding Discarding = true
is_discarding Accumulating = false

abbrev pub is_default : Trigger → Bool
is_default trigger =
    is_none trigger.early && (trigger.late == 1 && (int_eq trigger.lateness (pos 0)
    && (is_discarding trigger.mode && (has_no_bars trigger.early_bars && has_no_bars trigger.late_bars))))

abbrev pub has_default : NodeKind → Bool
has_default (Group trigger) = is_default trigger
has_default _ = false

-- a ParDo of SumSeq, CountSeq or MaxSeq
abbrev pub is_fold_kind : NodeKind → Bool
is_fold_kind (ParDo work args) = folds work
is_fold_kind _ = false

abbrev pub is_only_fold : Plan → List ℕ → Bool
is_only_fold plan (follower ∷ []) = has_kind is_fold_kind plan follower
is_only_fold plan _ = false

-- some Write takes what the node `from` puts out, with no Group between
abbrev pub is_written_from : Plan → ℕ → Bool
is_written_from plan from = list_any (λ node. is_write_kind node.kind && takes_passed plan from node) plan.nodes

-- some source has a way to a Write that meets no Group. Of a source 0, a ParDo 1 of it, a Group 2 of that, a ParDo 3 of the Group and a Write 4 of that none
-- has; with a Write 5 of the ParDo 1 the source has one.
abbrev pub goes_past : Plan → Bool
goes_past plan = list_any (λ numbered. is_source_kind numbered.1.kind && is_written_from plan numbered.0) (enumerate_from 0 plan.nodes)

-- the first rule that a Group of this number breaks
abbrev pub group_refusal : Plan → ℕ → Option ShapeRefusal
group_refusal plan group =
    if not (has_kind has_default plan group) then Some refusal.Trigger
    else (if is_sessions (strategy_of plan group) then Some refusal.Sessions
    else (if not (is_only_fold plan (followers_of plan group)) then Some refusal.Follower
    else (if goes_past plan then Some refusal.Past else None)))

abbrev pub groups_refusal : Plan → Option ℕ → Option ShapeRefusal
groups_refusal plan None = Some refusal.Groups
groups_refusal plan (Some group) = group_refusal plan group

-- Why a plan is not lifted, if it is not: the first rule that it breaks. Timed lines, their numbers by key, in windows of a minute, grouped, summed and
-- written break none. With version 2, a Stateful node, a second Group, a lateness of 1, sessions, a second Write of the Group, and a Write of the numbers
-- they break one rule each, in this order.
abbrev pub shape_refusal : Plan → Option ShapeRefusal
shape_refusal plan =
    if not (plan.version == 1) then Some refusal.Version
    else (if list_any (λ node. is_stateful_kind node.kind) plan.nodes then Some refusal.Stateful
    else groups_refusal plan (only_group plan.nodes))

-- A plan that is lifted, as a condition of its own: of version 1 and without state, with one Group that has the default trigger and no sessions, is taken once, by
-- SumSeq, CountSeq or MaxSeq, and that every way from a source to a Write meets.
pub record IsLiftable (plan : Plan) : Type 0 where
  pub version : (plan.version == 1) ≡ true
  pub stateless : list_any (λ node. is_stateful_kind node.kind) plan.nodes ≡ false
  pub group : ℕ
  pub only : only_group plan.nodes ≡ Some group
  pub trigger : has_kind has_default plan group ≡ true
  pub windows : is_sessions (strategy_of plan group) ≡ false
  pub follower : is_only_fold plan (followers_of plan group) ≡ true
  pub met : goes_past plan ≡ false
