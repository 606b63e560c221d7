use Rattle.windowing.proofs.GivenWindows.{are_windows, hold}
use Rattle.windowing.proofs.laws.windows_hold_their_time.Goals as goal

pub returns : goal.returns
returns c = record { of_the_kind = are_windows; hold = hold }
