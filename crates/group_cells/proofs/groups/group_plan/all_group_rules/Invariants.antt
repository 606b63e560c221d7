use Rattle.std.proofs.Common.{◌≡◌, ℕ, ◌<◌, None, length, slice_index_or}
use Rattle.group_cells.specs.GroupPlans.{group_rules}
use Rattle.group_cells.proofs.groups.group_plan.all_group_rules.Given as goal

abbrev pub invariant-loop-node : goal.invariant-loop-node
invariant-loop-node l = record {
  sized : length l.groups.items ≡ l.node;
  each : (k : ℕ) → k < l.node → slice_index_or l.groups.items k None ≡ group_rules l.plan k;
}
