use Rattle.std.proofs.Common.{arith, ◌∙◌, ap}
use Rattle.stateful_core.specs.Seen.{cell_of}
use Rattle.stateful_core.specs.declared.slot.Slot.{Slot}
use Rattle.stateful_core.proofs.Found.{set_cells}
use Rattle.stateful_core.proofs.opening.let_go.Goals as goal

pub returns-then-at-len-clause-cells : goal.returns-then-at-len-clause-cells
returns-then-at-len-clause-cells c =
    set_cells c.args.slots.now.items c.args.at c.index_mut-slot.result.now c.let_slot_go.new.slot (omega (arith, c.if-at-len.true, c.len.ensures))
    (c.let_slot_go.ensures ∙ ap (λ (s : Slot). cell_of s) c.index_mut-slot.ensures.value)
