use Rattle.beam_values.specs.Sessions.{LiesIn}
use Rattle.plain_model.specs.Sessions.{IsPart, spans_with}
use Rattle.plain_model.proofs.Merging.{room}
use Rattle.plain_model.proofs.sessions.merged_span.Given as goal

abbrev pub invariant-loop-span : goal.invariant-loop-span
invariant-loop-span l = record {
  part : IsPart (spans_with l.element l.elements) l.session;
  within : LiesIn l.element.span l.session;
}

abbrev pub decreases-loop-span : goal.decreases-loop-span
decreases-loop-span l = room l.session
