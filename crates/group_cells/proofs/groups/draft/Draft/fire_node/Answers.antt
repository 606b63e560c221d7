use Rattle.std.proofs.Common.{◌≡◌, ◌<◌, ℤ, List, Some, ap, arith, length, map, subst, ◌∙◌}
use Rattle.std.specs.Prelude.{slice_get, slice_set}
use Rattle.std.specs.Int.{int_min}
use Rattle.beam_values.specs.Marks.{least_mark, mark_into, node_marks}
use Rattle.beam_values.specs.declared.cell.Pane.{Pane}
use Rattle.beam_values.specs.declared.marks.StageMarks.{StageMarks}
use Rattle.beam_values.specs.declared.plan.Plan.{Plan}
use Rattle.beam_model.specs.Holds.{pane_hold}
use Rattle.beam_model.specs.Panes.{rules_of}
use Rattle.watermarks.proofs.CheckedNodes.{inputs_lower}
use Rattle.watermarks.proofs.NodeMarks.{node_read}
use Rattle.group_cells.specs.Plain.{AreGroupFired}
use Rattle.group_cells.proofs.groups.draft.Draft.fire_node.Goals as goal

pub marks_of_node-mark_in-requires : goal.marks_of_node-mark_in-requires
marks_of_node-mark_in-requires c = λ k d within.
    let plan = c.args.plan.now in
    let read : c.as_slice.result.now ≡ plan.nodes = c.as_slice.ensures ∙ ap (λ (p : Plan). p.nodes) c.plan.ensures in
    let inside : c.args.n < length c.as_slice.result.now = omega (arith, ap length read) in
    let there = node_read c.as_slice.result.now plan.nodes c.args.n c.index-as_slice-n.result read inside c.index-as_slice-n.is in
    omega (arith, inputs_lower plan c.args.n c.index-as_slice-n.result c.requires.checked there k d within, ap length c.as_slice-2.ensures.value)

pub marks_of_node-stage-requires : goal.marks_of_node-stage-requires
marks_of_node-stage-requires c = λ k d within.
    let plan = c.args.plan.now in
    let read : c.as_slice.result.now ≡ plan.nodes = c.as_slice.ensures ∙ ap (λ (p : Plan). p.nodes) c.plan.ensures in
    let inside : c.args.n < length c.as_slice.result.now = omega (arith, ap length read) in
    let there = node_read c.as_slice.result.now plan.nodes c.args.n c.index-as_slice-n.result read inside c.index-as_slice-n.is in
    omega (arith, inputs_lower plan c.args.n c.index-as_slice-n.result c.requires.checked there k d within, ap length c.as_slice-4.ensures.value)

pub returns-clause-fired : goal.returns-clause-fired
returns-clause-fired c =
    let plan = c.args.plan.now in
    let before = c.args.before.now in
    let n = c.args.n in
    let marks = c.args.marks.now.items in
    let node = c.index-as_slice-n.result in
    let fired = c.in_ok-fired.fired in
    let read : c.as_slice.result.now ≡ plan.nodes = c.as_slice.ensures ∙ ap (λ (p : Plan). p.nodes) c.plan.ensures in
    let inside : n < length c.as_slice.result.now = omega (arith, ap length read) in
    let there : slice_get plan.nodes n ≡ Some node = node_read c.as_slice.result.now plan.nodes n node read inside c.index-as_slice-n.is in
    let mark_is : c.marks_of_node-mark_in.result.mark_in ≡ mark_into marks node.inputs =
    ap (λ (s : StageMarks). s.mark_in) c.marks_of_node-mark_in.ensures ∙ ap (λ (m : List StageMarks). mark_into m node.inputs) c.as_slice-2.ensures.value in
    let least_is : c.least_with-least.result ≡ int_min c.args.hold (least_mark (map (λ pane. (pane_hold before pane).mark) fired)) =
    c.least_with-least.ensures ∙ ap (λ (l : List Pane). int_min c.args.hold (least_mark (map (λ pane. (pane_hold before pane).mark) l))) c.as_slice-3.ensures in
    let stage_is : c.marks_of_node-stage.result ≡ node_marks marks node.inputs (int_min c.args.hold (least_mark (map (λ pane. (pane_hold before pane).mark) fired))) =
    c.marks_of_node-stage.ensures ∙ (λ i. node_marks (c.as_slice-4.ensures.value i) node.inputs (least_is i)) in
    record {
      node = node;
      there = there;
      fires = λ group. subst (λ (m : ℤ). AreGroupFired (rules_of plan n) n c.args.commit m c.args.self.now.cells c.fire_if_group.new.self.cells fired) mark_is (c.in_ok-fired.ensures.fires group);
      rests = c.in_ok-fired.ensures.rests;
      marks_are = λ i. slice_set marks n (stage_is i);
    }
