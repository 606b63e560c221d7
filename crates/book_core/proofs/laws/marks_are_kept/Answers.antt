use Rattle.book_core.proofs.SaneAlways.{reached_sane}
use Rattle.book_core.proofs.laws.marks_are_kept.Goals as goal

pub returns : goal.returns
returns c = λ told b reached. (reached_sane told b reached).marks
