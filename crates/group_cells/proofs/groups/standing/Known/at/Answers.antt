use Rattle.std.proofs.Common.{◌≤ℤ◌, arith, subst}
use Rattle.std.proofs.lemmas.Int.{ints}
use Rattle.group_cells.specs.KnownWindows.{IsKnown}
use Rattle.group_cells.proofs.KnownCells.{risen_listed}
use Rattle.group_cells.proofs.groups.standing.Known.at.Goals as goal

pub returns : goal.returns
returns c = λ node key cells known.
    let rs = c.args.rules.now in
    let listed = c.in-Apart.listed in
    let h = subst (IsKnown rs node key cells) c.in-Apart.is known in
    let rises : listed.mark ≤ℤ c.args.mark = let no_ = c.if-ms.false in omega (arith, ints, no_, c.ms.ensures.value, c.ms-2.ensures.value) in
    (c.risen.ensures.mark, risen_listed rs listed.mark c.args.mark node key cells rises listed.by_end c.risen.result.by_end h (c.risen.ensures.left h.apart))
