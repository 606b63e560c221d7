use Rattle.std.proofs.Common.{◌≡◌, ℕ, ◌<◌, ◌≤◌, ◌&&◌, Bool, List, length, get_or, ap, sym, ◌∙◌, arith}
use Rattle.std.specs.List.{enumerate_from, list_any}
use Rattle.std.proofs.lemmas.List.{take_all}
use Rattle.std.proofs.lemmas.List.FromFn.{length-enumerate_from}
use Rattle.beam_values.specs.Nodes.{is_source_kind}
use Rattle.beam_values.specs.declared.plan.Node.{Node}
use Rattle.beam_values.specs.declared.plan.Plan.{Plan}
use Rattle.combine_lift.specs.Lifting.{is_written_from}
use Rattle.combine_lift.proofs.Numbered.{none_up_to, passes_here}
use Rattle.combine_lift.proofs.lifting.goes_past.Goals as goal

abbrev is_past : Plan → ℕ × Node → Bool
is_past plan numbered = is_source_kind numbered.1.kind && is_written_from plan numbered.0

pub returns-then-branch : goal.returns-then-branch
returns-then-branch c =
    let plan = c.args.plan.now in
    let e : c.as_slice-node-items.result.now ≡ plan.nodes = c.as_slice-node-items.ensures in
    let within : c.loop-number.number < length plan.nodes = omega (arith, ap length e, c.loop-number-test.true) in
    sym (passes_here (is_past plan) plan.nodes c.loop-number.number c.node-item.result within
    (c.node-item.is ∙ ap (λ (l : List Node). get_or l c.loop-number.number c.node-item.result) e) (sym c.in_ok-is_past.ensures ∙ c.if-branch.true))

pub loop-number-preserved : goal.loop-number-preserved
loop-number-preserved c =
    let plan = c.args.plan.now in
    let e : c.as_slice-node-items.result.now ≡ plan.nodes = c.as_slice-node-items.ensures in
    let within : c.loop-number.number < length plan.nodes = omega (arith, ap length e, c.loop-number-test.true) in
    none_up_to (is_past plan) plan.nodes c.loop-number.number c.node-item.result within
    (c.node-item.is ∙ ap (λ (l : List Node). get_or l c.loop-number.number c.node-item.result) e) c.loop-number.invariant (sym c.in_ok-is_past.ensures ∙ c.if-branch.false)

pub returns : goal.returns
returns c =
    let plan = c.args.plan.now in
    let e : c.as_slice-node-items.result.now ≡ plan.nodes = c.as_slice-node-items.ensures in
    let past : length (enumerate_from 0 plan.nodes) ≤ c.loop-number.number =
    omega (arith, ap length e, c.loop-number-test.false, length-enumerate_from 0 plan.nodes) in
    sym (ap (list_any (is_past plan)) (sym (take_all c.loop-number.number (enumerate_from 0 plan.nodes) past)) ∙ c.loop-number.invariant)
