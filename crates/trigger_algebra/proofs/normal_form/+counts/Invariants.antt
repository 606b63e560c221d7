use Rattle.std.proofs.Common.{◌≡◌, fold, take}
use Rattle.std.specs.List.{flat_map}
use Rattle.trigger_algebra.specs.Refusing.{counts_of}
use Rattle.trigger_algebra.specs.Staircases.{insert_count}
use Rattle.trigger_algebra.proofs.normal_form.+counts.Given as goal

abbrev pub invariant-add_all_counts-loop-tree : goal.invariant-add_all_counts-loop-tree
invariant-add_all_counts-loop-tree l =
    l.counts.items ≡ fold (λ some count. insert_count count some) l.initial.counts.items (flat_map counts_of (take l.tree-index l.trees))
