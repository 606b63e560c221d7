use Rattle.std.proofs.Common.{◌≤ℤ◌, arith}
use Rattle.std.proofs.lemmas.Int.{ints}
use Rattle.watermarks.proofs.KeptMarks.{first_is_least, lowest_is_lower, read_later}
use Rattle.watermarks.proofs.listed.Listed.least_place.Goals as goal
use Rattle.watermarks.proofs.listed.Listed.least_place.Goals.{else-added-2-via-then-added-2+else-ms, else-added-2-via-else-added-2}

pub returns-then-ms : goal.returns-then-ms
returns-then-ms c =
    let l = c.args.self.now in
    let low = c.index.result.now in
    let now = c.index-then-added-2.result.now in
    let lower : low.mark ≤ℤ now.mark = let h = c.if-ms.true in omega (arith, ints, h, c.ms.ensures.value, c.ms-then-added-2.ensures.value) in
    lowest_is_lower l.items.items l.ordered l.first l.lowest c.requires low now (omega arith) c.index.ensures c.index-then-added-2.ensures (omega arith) lower

pub returns-else-added-2 : goal.returns-else-added-2
returns-else-added-2 c =
    let l = c.args.self.now in
    elim c.else-added-2.branch [
      | else-added-2-via-then-added-2+else-ms w ↦
          first_is_least l.items.items l.ordered l.first l.lowest c.requires (omega arith)
          (λ more d.
          let low = w.index.result.now in
          let now = w.index-then-added-2.result.now in
          let lower : now.mark ≤ℤ low.mark = let h = w.if-ms.false in omega (arith, ints, h, w.ms.ensures.value, w.ms-then-added-2.ensures.value) in
          read_later l.items.items l.first l.lowest now low w.index-then-added-2.ensures w.index.ensures (omega arith) (c.requires.lowest_within more).1 lower d)
      | else-added-2-via-else-added-2 w ↦
          let none = w.if-added-2.false in
          first_is_least l.items.items l.ordered l.first l.lowest c.requires (omega arith) (λ more d. absurd (omega (arith, none)))
    ]
