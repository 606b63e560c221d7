use Rattle.std.proofs.Common.{List, Option, Bor, subst, sym}
use Rattle.std.specs.Prelude.{map}
use Rattle.std.specs.Option.{option_map, option_copied}
use Rattle.stateful_core.specs.Cells.{key_holds}
use Rattle.stateful_core.specs.Least.{AreLeast, tree_hold}
use Rattle.stateful_core.specs.Opening.{done_of}
use Rattle.stateful_core.specs.Placing.{finish}
use Rattle.stateful_core.specs.Seen.{cells_of}
use Rattle.stateful_core.specs.declared.key_job.KeyDone.{KeyDone}
use Rattle.stateful_core.specs.declared.node_tree.NodeTree.{NodeTree}
use Rattle.stateful_core.proofs.TreeHolds.{least_of_trees, trees_held}
use Rattle.stateful_core.proofs.holding.lower_standing.Goals as goal

pub returns-in-None-clause-least : goal.returns-in-None-clause-least
returns-in-None-clause-least c = λ h.
    let cells = cells_of c.args.slots.now in
    subst (λ (o : Option (Bor KeyDone)). AreLeast c.lower_trees.new.least (key_holds (finish c.args.before.now (option_map done_of (option_copied o)) (cells_of c.args.slots.now)))) (sym c.in-None.is)
    (least_of_trees c.args.trees.now.items cells c.lower_trees.new.least (trees_held c.args.trees.now.items cells c.requires.trees)
    (subst (λ (l : List NodeTree). AreLeast c.lower_trees.new.least (map tree_hold l)) c.as_slice.ensures.value (c.lower_trees.ensures.least h)))
