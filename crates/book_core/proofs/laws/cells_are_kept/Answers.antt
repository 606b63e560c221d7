use Rattle.book_core.proofs.laws.cells_are_kept.Goals as goal

pub returns : goal.returns
returns c = record {
  cells = λ told b reached. (c.books_are_kept.ensures.reached told b reached).kept.cells;
  writes = λ told b reached. (c.books_are_kept.ensures.reached told b reached).sane.writes;
}
