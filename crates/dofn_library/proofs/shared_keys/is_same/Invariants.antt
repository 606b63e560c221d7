use Rattle.std.proofs.Common.{◌≡◌, take}
use Rattle.dofn_library.proofs.shared_keys.is_same.Given as goal

-- the bytes so far are the same
abbrev pub invariant-loop-at : goal.invariant-loop-at
invariant-loop-at l = take l.at l.own ≡ take l.at l.bytes
