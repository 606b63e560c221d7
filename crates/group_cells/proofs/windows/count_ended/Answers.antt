use Rattle.std.proofs.Common.{rules}
use Rattle.std.specs.Prelude.{int_le}
use Rattle.std.proofs.lemmas.List.Sorted.{IsPartitionPoint-from_clause}
use Rattle.beam_values.specs.Intervals.{Interval}
use Rattle.session_merge.proofs.Places.{ended_found}
use Rattle.group_cells.proofs.windows.count_ended.Goals as goal

pub returns-clause-ended : goal.returns-clause-ended
returns-clause-ended c =
    let listed = c.args.listed.now in
    let n = c.partition_point.result in
    (ended_found listed c.args.own c.start-start.result n c.start-start.ensures.value c.requires
    (λ parted. IsPartitionPoint-from_clause (λ (w : Interval). int_le w.end c.start-start.result) listed n c.partition_point.ensures.partitioned parted (λ a r q k. search rules))).0

pub returns-clause-later : goal.returns-clause-later
returns-clause-later c =
    let listed = c.args.listed.now in
    let n = c.partition_point.result in
    (ended_found listed c.args.own c.start-start.result n c.start-start.ensures.value c.requires
    (λ parted. IsPartitionPoint-from_clause (λ (w : Interval). int_le w.end c.start-start.result) listed n c.partition_point.ensures.partitioned parted (λ a r q k. search rules))).1
