use Rattle.windowing.proofs.GivenWindows.{ascend}
use Rattle.windowing.proofs.laws.windows_ascend.Goals as goal

pub returns : goal.returns
returns c = ascend
