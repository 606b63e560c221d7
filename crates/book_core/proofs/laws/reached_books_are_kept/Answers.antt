use Rattle.book_core.proofs.laws.reached_books_are_kept.Goals as goal

pub returns : goal.returns
returns c = λ told b reached. (c.books_are_kept.ensures.reached told b reached).kept
