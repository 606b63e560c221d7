use Rattle.std.proofs.Common.{◌≡◌, ◌<◌, length, refl, sym, ap, ◌∙◌, arith}
use Rattle.std.proofs.lemmas.Bool.{false≢true}
use Rattle.beam_values.specs.Marks.{node_marks}
use Rattle.watermarks.specs.Holds.{hold_at}
use Rattle.watermarks.proofs.CheckedNodes.{inputs_lower}
use Rattle.watermarks.proofs.NodeMarks.{hold_read, marks_all, node_read}
use Rattle.piece_checks.proofs.MarkTests.{marks_read, right_more}
use Rattle.piece_checks.proofs.marks.are_marks.Goals as goal

pub marks_of_node-requires : goal.marks_of_node-requires
marks_of_node-requires c = λ k d within.
    let plan = c.args.plan.now in
    let at = node_read c.as_slice-node-items.result.now plan.nodes c.loop-n.n c.node-item.result c.as_slice-node-items.ensures c.loop-n-test.true c.node-item.is in
    let inside : c.loop-n.n < length c.args.marks.now = omega (arith, c.requires.marks, ap length c.as_slice-node-items.ensures) in
    omega (arith, inputs_lower plan c.loop-n.n c.node-item.result c.requires.checked at k d within)

pub returns-then-not-is_same : goal.returns-then-not-is_same
returns-then-not-is_same c =
    let plan = c.args.plan.now in
    let marks = c.args.marks.now in
    let holds = c.args.holds.now in
    let n = c.loop-n.n in
    let node = c.node-item.result in
    let at = node_read c.as_slice-node-items.result.now plan.nodes n node c.as_slice-node-items.ensures c.loop-n-test.true c.node-item.is in
    let inside : n < length marks = omega (arith, c.requires.marks, ap length c.as_slice-node-items.ensures) in
    let held : n < length holds = omega (arith, c.requires.holds, ap length c.as_slice-node-items.ensures) in
    let hold = hold_read holds n c.index-holds-n.result held c.index-holds-n.is in
    let made : c.marks_of_node.result ≡ node_marks marks node.inputs (hold_at holds n) = c.marks_of_node.ensures ∙ ap (node_marks marks node.inputs) hold in (
      λ fails. absurd (false≢true fails),
      λ are.
          sym c.if-not-is_same.true
          ∙ c.is_same.ensures.1 (sym (marks_read marks n c.index-marks-n.result inside c.index-marks-n.is) ∙ are.each n node at ∙ sym made),
    )

pub loop-n-preserved : goal.loop-n-preserved
loop-n-preserved c =
    let plan = c.args.plan.now in
    let marks = c.args.marks.now in
    let holds = c.args.holds.now in
    let n = c.loop-n.n in
    let node = c.node-item.result in
    let at = node_read c.as_slice-node-items.result.now plan.nodes n node c.as_slice-node-items.ensures c.loop-n-test.true c.node-item.is in
    let inside : n < length marks = omega (arith, c.requires.marks, ap length c.as_slice-node-items.ensures) in
    let held : n < length holds = omega (arith, c.requires.holds, ap length c.as_slice-node-items.ensures) in
    let hold = hold_read holds n c.index-holds-n.result held c.index-holds-n.is in
    let made : c.marks_of_node.result ≡ node_marks marks node.inputs (hold_at holds n) = c.marks_of_node.ensures ∙ ap (node_marks marks node.inputs) hold in
    right_more plan (hold_at holds) marks n node c.loop-n.invariant at
    (marks_read marks n c.index-marks-n.result inside c.index-marks-n.is ∙ c.is_same.ensures.0 c.if-not-is_same.false ∙ made)

pub returns : goal.returns
returns c = (
  λ yes.
      marks_all c.args.plan.now (hold_at c.args.holds.now) c.args.marks.now c.loop-n.n (omega (arith, ap length c.as_slice-node-items.ensures, c.loop-n-test.false))
      c.loop-n.invariant,
  λ are. refl,
)
