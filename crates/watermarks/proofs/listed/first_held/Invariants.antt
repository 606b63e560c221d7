use Rattle.std.proofs.Common.{◌≡◌, ◌-◌, ◌≤◌, ◌<◌, ℕ, slice_index_or}
use Rattle.watermarks.specs.declared.listed.Held.{Held}
use Rattle.watermarks.proofs.listed.first_held.Given as goal

abbrev pub invariant-spent : goal.invariant-spent
invariant-spent l = record {
  from : l.from ≤ l.at;
  to : l.at ≤ l.to;
  spent : (k : ℕ) (d : Held) → l.from ≤ k → k < l.at → (slice_index_or l.items k d).count ≡ 0;
}

abbrev pub decreases-spent : goal.decreases-spent
decreases-spent l = l.to - l.at
