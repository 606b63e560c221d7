use Rattle.std.proofs.Common.{◌≡◌, map, take}
use Rattle.stateful_core.specs.Data.{key_data_of}
use Rattle.stateful_core.specs.Seen.{cells_of}
use Rattle.stateful_core.proofs.giving_out.all_data.Given as goal

abbrev pub invariant-loop-slot : goal.invariant-loop-slot
invariant-loop-slot l = l.keys ≡ map key_data_of (cells_of (take l.slot-index l.slots))
