use Rattle.std.proofs.Common.{rules, ap, length}
use Rattle.book_core.proofs.book.Book.dropped.Goals as goal

pub overflow_cast-result : goal.overflow_cast-result
overflow_cast-result c =
    let within = c.self.invariant.indexed.sane.formed.within in
    search (rules, within.dropped, ap length c.dropped.ensures)
