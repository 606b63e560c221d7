use Rattle.std.proofs.Common.{rules}
use Rattle.std.specs.Prelude.{int_lt}
use Rattle.std.proofs.lemmas.List.Sorted.{IsPartitionPoint-from_clause}
use Rattle.beam_values.specs.Intervals.{Interval}
use Rattle.session_merge.proofs.Places.{begun_found}
use Rattle.session_merge.proofs.runs.count_begun.Goals as goal

pub returns-clause-begun : goal.returns-clause-begun
returns-clause-begun c =
    let spans = c.args.spans.now in
    let n = c.partition_point.result in
    (begun_found spans c.args.span c.end-end.result n c.end-end.ensures.value c.requires
    (λ parted. IsPartitionPoint-from_clause (λ (w : Interval). int_lt w.start c.end-end.result) spans n c.partition_point.ensures.partitioned parted (λ a r q k. search rules))).0

pub returns-clause-later : goal.returns-clause-later
returns-clause-later c =
    let spans = c.args.spans.now in
    let n = c.partition_point.result in
    (begun_found spans c.args.span c.end-end.result n c.end-end.ensures.value c.requires
    (λ parted. IsPartitionPoint-from_clause (λ (w : Interval). int_lt w.start c.end-end.result) spans n c.partition_point.ensures.partitioned parted (λ a r q k. search rules))).1
