use Rattle.run_engine.proofs.GoesOn.{goes_on}
use Rattle.run_engine.proofs.laws.runs_go_on.Goals as goal

pub returns : goal.returns
returns c known b other steps reached run = goes_on known b other reached (record { steps = steps; run = run })
