use Rattle.std.proofs.Common.{◌≡◌, ◌<◌, ◌+◌, ℕ, List, Option, Some}
use Rattle.std.specs.Prelude.{slice_get}
use Rattle.stateful_core.specs.Cells.{KeyCell}
use Rattle.stateful_core.specs.Trees.{AreTreesBut, HasPlace}
use Rattle.stateful_core.specs.declared.slot.Slot.{Slot}
use Rattle.stateful_core.proofs.trees.grow_all.Given as goal

abbrev pub invariant-loop-k : goal.invariant-loop-k
invariant-loop-k l = record {
  kept : (hole : Option ℕ) (cells : List KeyCell) → AreTreesBut hole l.initial.trees.items cells → AreTreesBut hole l.trees.items cells;
  grown : (j : ℕ) (slot : Slot) → j < l.k → slice_get l.fresh j ≡ Some slot → HasPlace l.trees.items slot.node (l.first + j);
}
