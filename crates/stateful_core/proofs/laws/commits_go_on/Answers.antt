use Rattle.stateful_core.proofs.OneLater.{one_later}
use Rattle.stateful_core.proofs.laws.commits_go_on.Goals as goal

pub returns : goal.returns
returns c = one_later
