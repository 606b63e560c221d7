use Rattle.std.proofs.Common.{◌≡◌, take}
use Rattle.beam_values.specs.Nodes.{facts_of}
use Rattle.windowing.proofs.facts.facts_of.Given as goal

abbrev pub invariant-loop-node : goal.invariant-loop-node
invariant-loop-node l = l.facts ≡ facts_of (take l.node-index l.nodes)
