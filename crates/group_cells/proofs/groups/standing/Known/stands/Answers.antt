use Rattle.std.proofs.Common.{subst}
use Rattle.group_cells.specs.KnownWindows.{opens, AreKnown}
use Rattle.group_cells.proofs.KnownCells.{stands_is}
use Rattle.group_cells.proofs.groups.standing.Known.stands.Goals as goal

pub returns-in-Apart : goal.returns-in-Apart
returns-in-Apart c = λ rules mark known open_.
    let h = subst (AreKnown mark (opens rules mark c.args.node c.args.key.now c.args.cells.now)) c.in-Apart.is known in
    stands_is rules mark c.args.node c.args.key.now c.args.span c.args.cells.now c.in-Apart.listed.by_end h.1 open_ c.has.result c.has.ensures.found c.has.ensures.there
