use Rattle.std.proofs.Common.{◌∙◌, ◌++◌, ap, map}
use Rattle.group_cells.specs.declared.groups.standing.Standing.{Standing}
use Rattle.group_cells.proofs.NearSessions.{near_more}
use Rattle.group_cells.proofs.groups.standing.Listed.near.Goals as goal

pub loop-span-preserved : goal.loop-span-preserved
loop-span-preserved c =
    let h = c.loop-span.invariant in
    let more = near_more c.args.self.now.by_end c.args.own.now c.loop-span.near c.push_spans.new.near c.in_ok-met.met c.loop-span.span-index c.span-item.result c.loop-span-test.true c.span-item.is
    (c.in_ok-push_spans.ensures ∙ ap (λ l. c.loop-span.near ++ map (λ (t : Standing). t.span) l) c.as_slice.ensures) c.in_ok-met.ensures.met c.in_ok-met.ensures.some h.listed h.some h.whole in
    record { listed = more.0; some = more.1; whole = more.2 }
