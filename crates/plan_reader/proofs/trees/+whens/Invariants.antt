use Rattle.std.proofs.Common.{◌+◌, ◌*◌}
use Rattle.serde_json.specs.View.{items_view, view}
use Rattle.plan_reader.proofs.Sizes.{data_items, data_size}
use Rattle.plan_reader.proofs.TreeTurns.{AreReadTo}
use Rattle.plan_reader.proofs.trees.+whens.Given as goal

-- there are fewer values the deeper a call is
abbrev pub decreases-when_of : goal.decreases-when_of
decreases-when_of l = 2 * data_size (view l.value.now)

abbrev pub decreases-when_of_value : goal.decreases-when_of_value
decreases-when_of_value l = 2 * data_size (view l.value.now)

abbrev pub decreases-whens_of : goal.decreases-whens_of
decreases-whens_of l = 2 * data_items (items_view l.trees.now) + 1

abbrev pub invariant-whens_of-loop-tree : goal.invariant-whens_of-loop-tree
invariant-whens_of-loop-tree l = AreReadTo l.trees l.tree-index l.whens
