use Rattle.std.proofs.Common.{◌≡◌, take}
use Rattle.beam_values.proofs.value.+copies.Given as goal

-- the values passed so far are copied
abbrev pub invariant-copy_all-loop-value : goal.invariant-copy_all-loop-value
invariant-copy_all-loop-value l = l.copies.items ≡ take l.value-index l.values
