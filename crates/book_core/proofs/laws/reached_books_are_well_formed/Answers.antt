use Rattle.book_core.proofs.SaneAlways.{reached_sane}
use Rattle.book_core.proofs.laws.reached_books_are_well_formed.Goals as goal

pub returns : goal.returns
returns c = λ told b reached. (reached_sane told b reached).formed
