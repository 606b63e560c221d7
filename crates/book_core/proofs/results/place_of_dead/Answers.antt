use Rattle.std.proofs.Common.{rules}
use Rattle.std.specs.Ordering.{is_lt}
use Rattle.std.proofs.lemmas.List.Sorted.{IsPartitionPoint-from_clause}
use Rattle.book_core.specs.Changes.{dead_cmp}
use Rattle.book_core.proofs.DeadPlaces.{placed_dead, parted_dead}
use Rattle.book_core.proofs.results.place_of_dead.Goals as goal

pub returns-clause-place : goal.returns-clause-place
returns-clause-place c =
    placed_dead c.args.dead.now c.args.position.now c.partition_point.result c.partition_point.ensures.bound
    (IsPartitionPoint-from_clause (λ y. is_lt (dead_cmp y c.args.position.now)) c.args.dead.now c.partition_point.result c.partition_point.ensures.partitioned
    (parted_dead c.args.dead.now c.args.position.now c.requires) (λ a r q k. search rules))
