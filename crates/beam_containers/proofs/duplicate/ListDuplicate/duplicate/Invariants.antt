use Rattle.std.proofs.Common.{◌≡◌, take}
use Rattle.beam_containers.proofs.duplicate.ListDuplicate.duplicate.Given as goal

-- the items passed so far are copied
abbrev pub invariant-loop-item : goal.invariant-loop-item
invariant-loop-item g l = l.copies.items ≡ take l.item-index l.items
