use Rattle.std.proofs.Common.{◌≡◌, take}
use Rattle.keyed_state.proofs.state.KeyState.cells.Given as goal

abbrev pub invariant-loop-name : goal.invariant-loop-name
invariant-loop-name l = l.cells ≡ take l.name l.self-inside.cells
