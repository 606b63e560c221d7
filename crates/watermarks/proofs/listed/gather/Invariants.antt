use Rattle.std.proofs.Common.{◌≡◌, ℕ, slice_index_or}
use Rattle.beam_values.specs.Bags.{IsSameBag}
use Rattle.watermarks.specs.declared.listed.Held.{Held}
use Rattle.watermarks.specs.HeldMarks.{marks_of}
use Rattle.watermarks.proofs.listed.gather.Given as goal

abbrev pub invariant-loop-next : goal.invariant-loop-next
invariant-loop-next l = record {
  marks : (k : ℕ) (d : Held) → (slice_index_or l.items k d).mark ≡ (slice_index_or l.fn.items k d).mark;
  same : IsSameBag (marks_of l.fn.items) (marks_of l.items);
}
