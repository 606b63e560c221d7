use Rattle.std.proofs.Common.{take, flat_map}
use Rattle.stored_books.specs.Held.{key_data_holds}
use Rattle.stored_books.specs.Held.{AreHeldOn}
use Rattle.stored_books.proofs.least.hold_keys.Given as goal

abbrev pub invariant-loop-key : goal.invariant-loop-key
invariant-loop-key l = AreHeldOn (flat_map key_data_holds (take l.key-index l.keys)) l.fn.least l.least
