use Rattle.std.proofs.Common.{ap, ◌∙◌}
use Rattle.std.specs.Prelude.{slice_set}
use Rattle.std.proofs.lemmas.Option.{get_or_from_slice_get}
use Rattle.stateful_core.specs.Trees.{renewed}
use Rattle.stateful_core.proofs.trees.set_in.Goals as goal

pub returns-clause-is : goal.returns-clause-is
returns-clause-is c = λ tree e.
    ap (slice_set c.args.trees.now.items c.args.k)
    (c.set_of_node.ensures ∙ ap (renewed c.args.node c.args.at c.args.entry.now) (c.index_mut-tree.ensures.value ∙ get_or_from_slice_get c.args.trees.now.items c.args.k tree c.index_mut-tree.result.now e))
