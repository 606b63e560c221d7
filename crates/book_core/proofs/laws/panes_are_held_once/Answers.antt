use Rattle.book_core.proofs.SaneAlways.{reached_sane}
use Rattle.book_core.proofs.laws.panes_are_held_once.Goals as goal

pub returns : goal.returns
returns c = λ told b reached. (reached_sane told b reached).held
