use Rattle.pipeline_graph.proofs.Unrefused.{checked_turn}
use Rattle.pipeline_graph.proofs.checking.check_nodes.Goals as goal

pub loop-number-preserved : goal.loop-number-preserved
loop-number-preserved c =
    checked_turn c.loop-number.number c.args.nodes.now c.split_at.result.0.now c.loop-number.facts c.add_facts.new.facts c.loop-number.files c.file_count-files.result
    c.index-nodes-number.result c.loop-number-test.true c.index-nodes-number.is c.split_at.ensures.front (cc) c.in_ok-add_facts.ensures c.file_count-files.ensures c.loop-number.invariant
