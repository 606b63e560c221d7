use Rattle.std.proofs.Common.{◌≡◌, ◌*◌, ◌^◌, pos, neg_ℤ, ◌≤ℤ◌, Some, take}
use Rattle.std.specs.Option.{option_map}
use Rattle.beam_model.specs.Values.{numbers_in}
use Rattle.beam_model.specs.Functions.{sum_of}
use Rattle.dofn_library.proofs.numbers.sum_of.Given as goal

abbrev pub invariant-loop-item : goal.invariant-loop-item
invariant-loop-item l = record {
  summed : option_map sum_of (numbers_in (take l.item-index l.items)) ≡ Some l.sum;
  above : neg_ℤ (pos (l.item-index * 2 ^ 63)) ≤ℤ l.sum;
  below : l.sum ≤ℤ pos (l.item-index * 2 ^ 63);
}
