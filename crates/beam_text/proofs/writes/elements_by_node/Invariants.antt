use Rattle.std.proofs.Common.{take}
use Rattle.beam_text.specs.Parts.{IsByNode}
use Rattle.beam_text.proofs.writes.elements_by_node.Given as goal

abbrev pub invariant-loop-arrival : goal.invariant-loop-arrival
invariant-loop-arrival l = IsByNode l.node_count (take l.arrival-index l.written) l.lists.items
