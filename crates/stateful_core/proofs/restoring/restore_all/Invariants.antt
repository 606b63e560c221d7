use Rattle.std.proofs.Common.{◌≡◌, ◌++◌}
use Rattle.std.specs.Vec.Iter.{into_iter_items}
use Rattle.stateful_core.specs.Data.{cells_of_data}
use Rattle.stateful_core.specs.Restoring.{AreRestored}
use Rattle.stateful_core.specs.Seen.{cells_of}
use Rattle.stateful_core.proofs.restoring.restore_all.Given as goal

abbrev pub invariant-loop-own : goal.invariant-loop-own
invariant-loop-own l = record {
  whole : l.fn.keys ≡ l.yielded ++ into_iter_items l.own-iterator;
  cells : cells_of l.restored.slots.items ≡ cells_of_data l.yielded;
  kept : AreRestored l.restored;
}
