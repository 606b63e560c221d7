use Rattle.std.proofs.Common.{◌≡◌, ℕ, ◌<◌, ◌≤◌, length}
use Rattle.std.specs.Prelude.{vec_capacity}
use Rattle.std.specs.Int.{int_min}
use Rattle.watermarks.specs.Holds.{hold_at}
use Rattle.book_core.specs.Indexes.{least_in}
use Rattle.book_core.proofs.held.least_with.Given as goal

abbrev pub invariant-loop-n : goal.invariant-loop-n
invariant-loop-n l = record {
  sized : length l.least.items ≡ l.n;
  room : length l.nodes ≤ vec_capacity l.least;
  each : (k : ℕ) → k < l.n → hold_at l.least.items k ≡ int_min (least_in l.nodes k) (hold_at l.others k);
}
