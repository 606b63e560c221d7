use Rattle.std.proofs.Common.{inl, refl}
use Rattle.worker_table.specs.Passes.{slot_of}
use Rattle.worker_loop.proofs.Steps.{at_slot}
use Rattle.worker_loop.proofs.turns.Turns.place.Goals as goal

pub returns-in-Ok-clause-turns : goal.returns-in-Ok-clause-turns
returns-in-Ok-clause-turns g c = inl (at_slot _ (slot_of c.args.pass.now) c.args.self.now.slot c.requires.slot c.in-Ok.ensures.turn, refl)
