use Rattle.std.proofs.Common.{ap}
use Rattle.std.specs.Prelude.{None}
use Rattle.book_core.specs.Book.{SeenBook}
use Rattle.book_core.proofs.Worked.{enrolled_free}
use Rattle.book_tests.proofs.book.enter.Goals as goal

pub returns-clause-free : goal.returns-clause-free
returns-clause-free c =
    let step = c.in_ok-enroll.ensures.ok None in
    enrolled_free c.args.book.now c.enroll.new.self c.in_ok-enroll.field-0 step.0 step.2

pub returns-clause-plan : goal.returns-clause-plan
returns-clause-plan c = ap (λ (b : SeenBook). b.plan) (c.in_ok-enroll.ensures.ok None).2
