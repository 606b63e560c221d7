use Rattle.std.proofs.Common.{rules, replicate}
use Rattle.std.proofs.lemmas.List.Sorted.{answers_always}
use Rattle.beam_values.proofs.Bags.{bag_flat_map, bag_from_permutation}
use Rattle.watermarks.proofs.KeptMarks.{ascending_from_sort}
use Rattle.watermarks.proofs.listed.sort_by_mark.Goals as goal

pub returns-clause-same : goal.returns-clause-same
returns-clause-same c =
    bag_flat_map (λ held. replicate held.count held.mark) c.args.items.now _ (bag_from_permutation c.args.items.now _ c.sort_unstable_by_key.ensures.permutation)

pub returns-clause-ascend : goal.returns-clause-ascend
returns-clause-ascend c = ascending_from_sort _ (c.sort_unstable_by_key.ensures.sorted (λ x. x.mark) (answers_always _ _ _ (λ f a r g h. search rules)))
