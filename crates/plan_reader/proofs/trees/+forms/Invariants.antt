use Rattle.std.proofs.Common.{◌+◌, ◌*◌}
use Rattle.serde_json.specs.View.{items_view, view}
use Rattle.plan_reader.proofs.Sizes.{data_items, data_size}
use Rattle.plan_reader.proofs.TreeTurns.{AreFormedTo}
use Rattle.plan_reader.proofs.trees.+forms.Given as goal

-- there are fewer values the deeper a call is
abbrev pub decreases-has_tree_form : goal.decreases-has_tree_form
decreases-has_tree_form l = 2 * data_size (view l.value.now)

abbrev pub decreases-is_tree_value : goal.decreases-is_tree_value
decreases-is_tree_value l = 2 * data_size (view l.value.now)

abbrev pub decreases-have_tree_forms : goal.decreases-have_tree_forms
decreases-have_tree_forms l = 2 * data_items (items_view l.trees.now) + 1

abbrev pub invariant-have_tree_forms-loop-tree : goal.invariant-have_tree_forms-loop-tree
invariant-have_tree_forms-loop-tree l = AreFormedTo l.trees l.tree-index
