use Rattle.std.proofs.Common.{◌≡◌, ◌∙◌}
use Rattle.beam_values.specs.declared.outcome.StopCause.TheVariants as cause
use Rattle.book_core.specs.Changes.{or_stopped}
use Rattle.book_core.specs.Inside.{data_of}
use Rattle.book_core.proofs.Steady.{stop_indexed, or_is}
use Rattle.book_core.proofs.book.Book.stop.Goals as goal

pub invariant_of-self : goal.invariant_of-self
invariant_of-self c = record {
  indexed =
      let is : c.or-self-inside.result ≡ or_stopped c.self.inside.stopped cause.NoMemory = c.or-self-inside.ensures ∙ or_is c.self.inside.stopped cause.NoMemory in
      stop_indexed (data_of c.self.inside) c.self.inside.held c.self.inside.pieces.room c.self.inside.returned.room c.or-self-inside.result is c.self.invariant.indexed;
  grouped = c.self.invariant.grouped;
  counted = c.self.invariant.counted;
}
