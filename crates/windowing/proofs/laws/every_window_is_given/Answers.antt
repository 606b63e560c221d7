use Rattle.windowing.proofs.GivenWindows.{are_given}
use Rattle.windowing.proofs.laws.every_window_is_given.Goals as goal

pub returns : goal.returns
returns c = are_given
