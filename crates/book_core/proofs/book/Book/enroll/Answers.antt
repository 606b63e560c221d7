use Rattle.std.proofs.Common.{◌<◌, ◌+◌, length, arith}
use Rattle.book_core.specs.Inside.{data_of}
use Rattle.book_core.specs.Steps.{Enroll, Enrolled}
use Rattle.book_core.proofs.Steady.{enroll_indexed, makes_enroll, makes_seen}
use Rattle.book_core.proofs.book.Book.enroll.Goals as goal

pub invariant_of-self-2 : goal.invariant_of-self-2
invariant_of-self-2 c = record {
  indexed =
      let less : length c.self.inside.slots.items + 1 < 4294967295 = omega (arith, c.if-number.false, c.len-number.ensures, c.self.inside.slots.ok) in
      enroll_indexed (data_of c.self.inside) c.self.inside.held c.self.inside.pieces.room c.self.inside.returned.room _ less c.in_ok-push.ensures.items c.self.invariant.indexed;
  grouped = c.self.invariant.grouped;
  counted = c.self.invariant.counted;
}

pub returns-clause-ok : goal.returns-clause-ok
returns-clause-ok c =
    let less : length c.self.inside.slots.items + 1 < 4294967295 = omega (arith, c.if-number.false, c.len-number.ensures, c.self.inside.slots.ok) in
    makes_seen (data_of c.self.inside) _ _ c.len-number.result Enroll (Enrolled c.len-number.result) c.self.view_is
    (makes_enroll (data_of c.self.inside) _ c.len-number.result less c.in_ok-push.ensures.items (omega (arith, c.len-number.ensures, c.self.inside.slots.ok)) c.self.invariant.indexed.sane)
