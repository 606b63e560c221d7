use Rattle.std.proofs.Common.{ℕ, take}
use Rattle.std.specs.Prelude.{◌↔◌, Contains}
use Rattle.group_cells.specs.KnownWindows.{places_of}
use Rattle.group_cells.proofs.groups.standing.in_order.Given as goal

abbrev pub invariant-loop-window : goal.invariant-loop-window
invariant-loop-window l = (p : ℕ) → Contains l.places.keys p ↔ Contains (places_of (take l.window-index l.met)) p
