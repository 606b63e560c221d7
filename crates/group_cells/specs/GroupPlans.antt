-- A plan with the rules of its Groups at hand.
use Rattle.std.specs.Prelude.{◌≡◌, ℕ, Bool, true, false, if◌then◌else◌, List, slice_index_or, Option, Some, None}
use Rattle.beam_values.specs.Nodes.{is_group}
use Rattle.beam_values.specs.declared.plan.Plan.{Plan}
use Rattle.beam_values.specs.declared.plan.Trigger.{Trigger}
use Rattle.beam_model.specs.Panes.{GroupRules, rules_of}
use Rattle.beam_model.specs.Plans.{default_trigger}

-- the rules of a node, if it is a Group
abbrev pub group_rules : Plan → ℕ → Option GroupRules
group_rules plan node = if is_group plan node then Some (rules_of plan node) else None

abbrev pub merges_in : Option GroupRules → Bool
merges_in None = false
merges_in (Some rules) = rules.merges

pub record IsGroupPlan (plan : Plan) (groups : List (Option GroupRules)) (merges : Bool) (other : Trigger) : Type 0 where
  -- the rules of each node that is a Group
  pub rules_are : (node : ℕ) → slice_index_or groups node None ≡ group_rules plan node
  -- the windows of a Group merge only where that is written
  pub some_merges : merges ≡ false → (node : ℕ) → is_group plan node ≡ true → (rules_of plan node).merges ≡ false
  -- what isn't a Group has the default trigger
  pub other_is : other ≡ default_trigger
