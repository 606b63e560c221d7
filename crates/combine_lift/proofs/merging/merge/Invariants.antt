use Rattle.std.proofs.Common.{◌+◌, ◌<◌, ◌≤◌, ◌^◌, ◌++◌, List, length, reverse, vec_len, vec_capacity}
use Rattle.combine_lift.specs.Merging.{Merges}
use Rattle.combine_lift.specs.Tables.{held_in}
use Rattle.combine_lift.specs.declared.row.Row.{Row}
use Rattle.combine_lift.proofs.merging.merge.Given as goal

abbrev pub invariant-loop-row : goal.invariant-loop-row
invariant-loop-row g l = record {
  few : held_in g.C.Combiner.held l.rows.items + held_in g.C.Combiner.held l.others.items < 2 ^ 63;
  room : vec_len l.merged + (length l.rows.items + length l.others.items) ≤ vec_capacity l.merged;
  merges : (more : List (Row _)) → Merges g.C.Combiner.stands g.C.Combiner.held (reverse l.rows.items) (reverse l.others.items) more
      → Merges g.C.Combiner.stands g.C.Combiner.held (reverse l.initial.rows.items) (reverse l.initial.others.items) (l.merged.items ++ more);
}

abbrev pub decreases-loop-row : goal.decreases-loop-row
decreases-loop-row g l = length l.rows.items + length l.others.items
