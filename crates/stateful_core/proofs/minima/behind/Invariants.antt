use Rattle.std.proofs.Common.{◌≡◌, drop}
use Rattle.std.specs.Prelude.{slice_get}
use Rattle.stateful_core.specs.Minima.{spread}
use Rattle.stateful_core.proofs.minima.behind.Given as goal

abbrev pub invariant-loop-k : goal.invariant-loop-k
invariant-loop-k l = slice_get (spread l.runs.items) l.from ≡ slice_get (spread (drop l.k l.runs.items)) l.left
