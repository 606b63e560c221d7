use Rattle.plan_reader.proofs.Merging.{none_unmerged}
use Rattle.plan_reader.proofs.placing.side_refusal.Goals as goal

pub loop-number-init : goal.loop-number-init
loop-number-init c = none_unmerged c.args.graph.now c.args.nodes.now c.requires.read
