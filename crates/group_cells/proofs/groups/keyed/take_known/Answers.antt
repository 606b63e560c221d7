use Rattle.std.proofs.Common.{sym, subst}
use Rattle.group_cells.specs.KnownWindows.{IsKnownOf}
use Rattle.group_cells.proofs.groups.keyed.take_known.Goals as goal

pub returns-in-None-clause-known : goal.returns-in-None-clause-known
returns-in-None-clause-known c = λ cells h.
    let key = c.args.key.now in
    let rs = c.args.rules.now in
    c.none.ensures rs key.node key.key cells (subst (IsKnownOf rs key.node key.key cells) (sym c.in-None.ensures.noted) h)

pub returns-in-Some-clause-known : goal.returns-in-Some-clause-known
returns-in-Some-clause-known c = λ cells h.
    let key = c.args.key.now in
    let rs = c.args.rules.now in
    c.at.ensures key.node key.key cells (subst (IsKnownOf rs key.node key.key cells) (sym c.in-Some.ensures.noted) h)
