use Rattle.std.proofs.Common.{ℕ, ◌<◌, ◌≤◌, ◌≤ℤ◌, length, slice_index_or}
use Rattle.watermarks.specs.declared.listed.Held.{Held}
use Rattle.watermarks.proofs.listed.lowest_from.Given as goal

abbrev pub invariant-loop-at : goal.invariant-loop-at
invariant-loop-at l = record {
  within : l.from < length l.items → (l.from ≤ l.lowest) × (l.lowest < length l.items);
  least : (k : ℕ) (d : Held) → l.from ≤ k → k < l.at → (slice_index_or l.items l.lowest d).mark ≤ℤ (slice_index_or l.items k d).mark;
}
