use Rattle.std.proofs.Common.{not, rules}
use Rattle.std.proofs.lemmas.List.Sorted.{IsPartitionPoint-from_clause}
use Rattle.split_core.specs.Order.{is_lower}
use Rattle.split_core.proofs.Ordered.{place_among, partitioned}
use Rattle.split_core.proofs.order.place_of.Goals as goal

pub returns-clause-place : goal.returns-clause-place
returns-clause-place c =
    place_among c.args.items.now c.args.piece.now c.partition_point.result c.partition_point.ensures.bound
    (IsPartitionPoint-from_clause (λ y. not (is_lower y c.args.piece.now)) c.args.items.now c.partition_point.result c.partition_point.ensures.partitioned
    (partitioned c.args.items.now c.args.piece.now c.requires) (λ a r q k. search rules))
