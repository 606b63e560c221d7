use Rattle.std.proofs.Common.{◌≡◌, take, drop}
use Rattle.std.specs.List.{flat_map}
use Rattle.std.specs.Ordering.{nat_cmp}
use Rattle.std.specs.Cmp.Lexicographic.{slice_cmp}
use Rattle.beam_values.specs.Spelling.{spelling}
use Rattle.beam_values.proofs.compare.+orders.Given as goal

-- the items so far are the same, and what is left decides
abbrev pub invariant-cmp_items-loop-i : goal.invariant-cmp_items-loop-i
invariant-cmp_items-loop-i l = record {
  same : take l.i l.a ≡ take l.i l.b;
  order : slice_cmp nat_cmp (flat_map spelling (drop l.i l.a)) (flat_map spelling (drop l.i l.b)) ≡ slice_cmp nat_cmp (flat_map spelling l.a) (flat_map spelling l.b);
}
