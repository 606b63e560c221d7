use Rattle.beam_model.proofs.Flows.{flow-panes, flow-items, flow-logs}
use Rattle.beam_model.proofs.laws.flows_add.Goals as goal

pub returns : goal.returns
returns c = record { panes = flow-panes; items = flow-items; logs = flow-logs }
