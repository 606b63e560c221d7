use Rattle.std.proofs.Common.{append-nil, reverse, subst, []}
use Rattle.combine_lift.specs.Merging.{Merges}
use Rattle.combine_lift.proofs.Taking.{merges_none}
use Rattle.combine_lift.proofs.merging.merge.Goals as goal

pub returns : goal.returns
returns g c =
    let none = c.in_default.ensures.none in
    subst (Merges g.C.Combiner.stands g.C.Combiner.held (reverse c.args.rows.items) (reverse c.args.others.items)) (append-nil c.loop-row.merged.items)
    (c.loop-row.invariant.merges [] (merges_none g.C.Combiner.stands g.C.Combiner.held c.loop-row.rows.items c.loop-row.others.items none.0 none.1))
