use Rattle.book_core.proofs.AllKept.{reached_aside}
use Rattle.book_core.proofs.SaneAlways.{reached_sane}
use Rattle.book_core.proofs.laws.attempts_are_counted.Goals as goal

pub returns : goal.returns
returns c = record {
  counted = λ told b reached. (reached_sane told b reached).attempts;
  aside = reached_aside;
  spent = λ told b reached. (reached_sane told b reached).spent;
  noted = λ told b reached. (reached_sane told b reached).stop;
}
