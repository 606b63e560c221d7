use Rattle.std.proofs.Common.{◌≡◌, [], take}
use Rattle.std.specs.List.{fold}
use Rattle.beam_model.specs.Reach.{with_passed}
use Rattle.combine_lift.proofs.lifting.passed_nodes.Given as goal

abbrev pub invariant-loop-node : goal.invariant-loop-node
invariant-loop-node l = l.passed.items ≡ fold (with_passed l.from) [] (take l.node-index l.nodes)
