use Rattle.std.proofs.Common.{List, arith, subst}
use Rattle.std.specs.Prelude.{All, Any}
use Rattle.std.proofs.lemmas.List.{take_all}
use Rattle.beam_values.specs.Intervals.{Interval}
use Rattle.beam_values.specs.Sessions.{LiesIn}
use Rattle.group_cells.proofs.WindowSessions.{holder_more}
use Rattle.group_cells.proofs.windows.sessions_of.Goals as goal

pub loop-span-preserved : goal.loop-span-preserved
loop-span-preserved c =
    let i = c.loop-span.span-index in
    let was = c.loop-span.invariant in
    let more = holder_more c.args.listed.now c.args.own.now c.loop-span.windows c.push_if.new.windows i c.span-item.result c.holder.result c.loop-span-test.true c.span-item.is
    c.in_ok-push_if.ensures c.holder.ensures.listed c.holder.ensures.covers was.listed was.covers was.few in
    record { listed = more.0; covers = more.1; few = more.2 }

pub returns-clause-covers : goal.returns-clause-covers
returns-clause-covers c =
    let own = c.args.own.now in
    let i = c.loop-span.span-index in
    subst (λ (l : List Interval). All (λ span. Any (LiesIn span) c.args.listed.now → Any (LiesIn span) c.loop-span.windows) l)
    (take_all i own (omega (arith, c.loop-span-test.false))) c.loop-span.invariant.covers
