use Rattle.book_core.proofs.SaneAlways.{opened_sane, reached_sane, step_sane}
use Rattle.book_core.proofs.laws.books_are_sane.Goals as goal

pub returns : goal.returns
returns c = record { opening = opened_sane; step = step_sane; reached = reached_sane }
