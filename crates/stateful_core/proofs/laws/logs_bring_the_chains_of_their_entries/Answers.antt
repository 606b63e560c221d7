use Rattle.stateful_core.proofs.FlowKept.{other_chains, place_chains}
use Rattle.stateful_core.proofs.laws.logs_bring_the_chains_of_their_entries.Goals as goal

pub returns-clause-other : goal.returns-clause-other
returns-clause-other c = other_chains

pub returns-clause-done : goal.returns-clause-done
returns-clause-done c = place_chains
