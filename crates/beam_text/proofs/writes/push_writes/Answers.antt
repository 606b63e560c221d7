use Rattle.std.proofs.Common.{◌<◌, length, nat_lt}
use Rattle.beam_text.specs.Parts.{elements_in}
use Rattle.beam_text.proofs.Written.{begun_more, left_more, next_list, adds_writes}
use Rattle.beam_text.proofs.writes.push_writes.Goals as goal

pub loop-i-preserved : goal.loop-i-preserved
loop-i-preserved c =
    let nodes = c.as_slice-nodes.result.now in
    let list = c.index_mut-elements.result.now in
    let within : c.loop-i.i < length nodes = c.loop-i-test.true in
    record {
      begun = begun_more (nat_lt 1 c.write_count-labelled.result) c.args.written.now nodes c.loop-i.i c.index-nodes-i.result (elements_in list.items) c.args.out.now c.loop-i.out c.push_node.new.out within c.index-nodes-i.is
          (next_list c.loop-i.i (length nodes) c.args.written.now c.loop-i.lists.items list within c.index_mut-elements.ensures.value c.loop-i.invariant.left)
          c.in_ok-push_node.ensures
          c.loop-i.invariant.begun;
      left = left_more c.loop-i.i (length nodes) c.args.written.now c.loop-i.lists.items c.push_node.new.elements c.loop-i.invariant.left;
    }

pub returns : goal.returns
returns c =
    adds_writes c.args.plan.now c.args.written.now c.as_slice-nodes.result.now c.write_count-labelled.result c.loop-i.i c.args.out.now c.loop-i.out c.as_slice-nodes.ensures c.write_count-labelled.ensures c.loop-i-test.false c.loop-i.invariant.begun
