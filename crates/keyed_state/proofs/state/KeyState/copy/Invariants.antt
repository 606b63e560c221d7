use Rattle.std.proofs.Common.{◌≡◌, length, take}
use Rattle.keyed_state.proofs.state.KeyState.copy.Given as goal

-- the cells so far are copied
abbrev pub invariant-loop-i : goal.invariant-loop-i
invariant-loop-i l = record { size : length l.cells ≡ 8; copied : take l.i l.cells ≡ take l.i l.self-inside.cells }
