use Rattle.std.proofs.Common.{arith, sym, ◌∙◌}
use Rattle.stateful_core.specs.Cells.{is_cell_of}
use Rattle.stateful_core.specs.Seen.{cell_of}
use Rattle.stateful_core.proofs.Numbers.{first_place, no_place, one_place_more}
use Rattle.stateful_core.proofs.finding.sought.Goals as goal

pub returns-then-is_cell_of : goal.returns-then-is_cell_of
returns-then-is_cell_of c =
    sym (first_place (is_cell_of c.args.node c.args.key.now c.args.span) cell_of c.args.slots.now c.loop-at.at c.index-slots-at.result (omega (arith, c.loop-at-test.true)) c.index-slots-at.is
    (sym c.is_cell_of.ensures ∙ c.if-is_cell_of.true) c.loop-at.invariant)

pub loop-at-preserved : goal.loop-at-preserved
loop-at-preserved c =
    one_place_more (is_cell_of c.args.node c.args.key.now c.args.span) cell_of c.args.slots.now c.loop-at.at c.index-slots-at.result (omega (arith, c.loop-at-test.true)) c.index-slots-at.is
    (sym c.is_cell_of.ensures ∙ c.if-is_cell_of.false) c.loop-at.invariant

pub returns : goal.returns
returns c = sym (no_place (is_cell_of c.args.node c.args.key.now c.args.span) cell_of c.args.slots.now c.loop-at.at (omega (arith, c.loop-at-test.false)) c.loop-at.invariant)
