use Rattle.std.proofs.Common.{◌≡◌, ◌++◌, [], List, take, arith, sym, subst}
use Rattle.group_cells.specs.Rounds.{AreSessionsOver}
use Rattle.std.specs.Prelude.{All, Any, Contains}
use Rattle.std.specs.List.Sorted.{IsPermutation}
use Rattle.beam_values.specs.Sessions.{LiesIn}
use Rattle.std.proofs.lemmas.List.{take_all}
use Rattle.beam_values.specs.Intervals.{Interval}
use Rattle.session_merge.specs.Merging.{AreSessionsOf}
use Rattle.group_cells.proofs.WindowSessions.{merged_more, ok_both, over_from, sessions_alike}
use Rattle.group_cells.proofs.windows.sessions_over.Goals as goal

pub loop-span-preserved : goal.loop-span-preserved
loop-span-preserved c =
    let more = merged_more [] c.deref-span-items.result.now c.loop-span.span-index c.span-item.result c.loop-span.sessions c.merge.new.sessions c.loop-span-test.true c.span-item.is
    c.in_ok-merge.ensures.some c.in_ok-merge.ensures.sessions c.loop-span.invariant.some c.loop-span.invariant.sessions in
    record { some = more.0; sessions = more.1 }

pub returns-clause-windows : goal.returns-clause-windows
returns-clause-windows c =
    let own = c.args.own.now in
    let open_ = c.args.standing.now in
    let items = c.deref-span-items.result.now in
    let all : take c.loop-span.span-index items ≡ items = take_all c.loop-span.span-index items (omega (arith, c.loop-span-test.false)) in
    let are : AreSessionsOf (Contains (open_ ++ own)) c.spans.result.now =
    subst (λ (l : List Interval). AreSessionsOf (Contains (open_ ++ own)) l) (sym c.spans.ensures.value)
    (sessions_alike items (open_ ++ own) c.loop-span.sessions (subst (IsPermutation (open_ ++ own)) (sym c.deref-span-items.ensures.value) c.in_ok-all.ensures) (subst (λ (l : List Interval). AreSessionsOf (Contains l) c.loop-span.sessions) all c.loop-span.invariant.sessions)) in
    ok_both c.sessions_of.result (λ l. All (Contains c.spans.result.now) l) (λ l. All (λ span. Any (LiesIn span) c.spans.result.now → Any (LiesIn span) l) own) (AreSessionsOver own open_)
    (λ l all covers. over_from own open_ c.spans.result.now l are all covers) c.sessions_of.ensures.listed c.sessions_of.ensures.covers
