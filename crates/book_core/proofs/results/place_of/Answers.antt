use Rattle.std.proofs.Common.{rules}
use Rattle.std.specs.Ordering.{is_le}
use Rattle.std.proofs.lemmas.List.Sorted.{IsPartitionPoint-from_clause}
use Rattle.book_core.specs.Changes.{done_cmp}
use Rattle.book_core.proofs.DonePlaces.{placed_done, parted_done}
use Rattle.book_core.proofs.results.place_of.Goals as goal

pub returns-clause-place : goal.returns-clause-place
returns-clause-place c =
    placed_done c.args.done.now c.args.range.now c.partition_point.result c.requires c.partition_point.ensures.bound
    (IsPartitionPoint-from_clause (λ y. is_le (done_cmp y c.args.range.now)) c.args.done.now c.partition_point.result c.partition_point.ensures.partitioned
    (parted_done c.args.done.now c.args.range.now c.requires) (λ a r q k. search rules))
