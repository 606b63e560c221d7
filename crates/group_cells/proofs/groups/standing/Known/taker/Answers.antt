use Rattle.std.proofs.Common.{subst}
use Rattle.group_cells.specs.KnownWindows.{opens, AreKnown}
use Rattle.group_cells.proofs.TakenEntries.{taker_from, taker_is}
use Rattle.group_cells.proofs.groups.standing.Known.taker.Goals as goal

pub returns-in-Apart : goal.returns-in-Apart
returns-in-Apart c = λ mark merges known open_.
    let rules = c.args.rules.now in
    let h = subst (AreKnown mark (opens rules mark c.args.node c.args.key.now c.args.cells.now)) c.in-Apart.is known in
    taker_is rules c.args.node c.args.key.now c.args.entry.now mark c.args.cells.now c.in-Apart.listed.by_end merges h.1 open_ c.holder.result (c.holder.ensures h.1.apart)

pub returns-in-Nothing : goal.returns-in-Nothing
returns-in-Nothing c = λ mark merges known open_.
    taker_from c.args.rules.now c.args.node c.args.key.now c.args.entry.now c.args.cells.now c.first_taker.result c.first_taker.ensures
