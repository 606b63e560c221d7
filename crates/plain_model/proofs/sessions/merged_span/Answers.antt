use Rattle.std.proofs.Common.{sym, subst}
use Rattle.beam_values.specs.Intervals.{Interval}
use Rattle.beam_values.specs.Sessions.{LiesIn}
use Rattle.plain_model.specs.Sessions.{IsPart, spans_with}
use Rattle.plain_model.proofs.Merging.{part_more, in_hull, room_falls}
use Rattle.plain_model.proofs.sessions.merged_span.Goals as goal

pub loop-span-smaller : goal.loop-span-smaller
loop-span-smaller c =
    room_falls c.loop-span.session c.in-Some.span c.hull-session.result c.hull-session.ensures.value c.in-Some.ensures.2 c.hull-session.ensures.low c.hull-session.ensures.high

pub loop-span-preserved : goal.loop-span-preserved
loop-span-preserved c =
    let spans = spans_with c.args.element.now c.args.elements.now in
    let own = c.args.element.now.span in
    record {
      part = subst (IsPart spans) (sym c.hull-session.ensures.value) (part_more spans c.loop-span.session c.in-Some.span c.loop-span.invariant.part c.in-Some.ensures.0 c.in-Some.ensures.1);
      within = subst (λ (s : Interval). LiesIn own s) (sym c.hull-session.ensures.value) (in_hull own c.loop-span.session c.in-Some.span c.loop-span.invariant.within);
    }
