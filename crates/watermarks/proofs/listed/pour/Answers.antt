use Rattle.std.proofs.Common.{◌≡◌, ◌+◌, rules}
use Rattle.watermarks.proofs.KeptMarks.{poured}
use Rattle.watermarks.proofs.listed.pour.Goals as goal

pub returns-clause-same : goal.returns-clause-same
returns-clause-same c =
    let before = c.index-items-next.result in
    let here = c.index-items-next-2.result in
    let same : before.mark ≡ here.mark = search rules in
    let sum : c.in-Some.count ≡ before.count + here.count = search rules in
    poured c.args.items.now c.args.next c.in-Some.count c.index-items-next-3.result c.index-items-next-4.result before here c.requires.behind c.requires.within c.index-items-next.is
    c.index-items-next-2.is same sum
