use Rattle.book_core.proofs.StoredBook.{data_is_sane}
use Rattle.book_core.proofs.laws.data_of_books_is_sane.Goals as goal

pub returns : goal.returns
returns c = data_is_sane
