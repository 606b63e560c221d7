use Rattle.std.proofs.Common.{◌≡◌, ◌≤◌, count_by, take}
use Rattle.beam_values.specs.Nodes.{is_write_kind}
use Rattle.beam_text.proofs.writes.write_count.Given as goal

-- the Writes among the nodes so far are counted
abbrev pub invariant-loop-node : goal.invariant-loop-node
invariant-loop-node l = record {
  counted : l.count ≡ count_by (λ node. is_write_kind node.kind) (take l.node-index l.nodes);
  bound : l.count ≤ l.node-index;
}
