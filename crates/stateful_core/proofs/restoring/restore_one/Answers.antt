use Rattle.std.proofs.Common.{arith, ◌≡◌, List, Some, None, length, subst, sym}
use Rattle.std.specs.BTreeMap as tree
use Rattle.cell_index.specs.Indexes.{cell_key_cmp}
use Rattle.cell_index.specs.declared.index_key.CellKey.{CellKey}
use Rattle.stateful_core.specs.Data.{cell_of_data}
use Rattle.stateful_core.specs.Seen.{cells_of}
use Rattle.stateful_core.specs.Trees.{AreTrees, AreTreesBut}
use Rattle.stateful_core.specs.declared.slot.Slot.{Slot}
use Rattle.stateful_core.proofs.DataSteps.{restored_more}
use Rattle.stateful_core.proofs.restoring.restore_one.Goals as goal

pub returns-clause-kept : goal.returns-clause-kept
returns-clause-kept c =
    let was = c.args.restored.now in
    let last : c.len-at.result ≡ length was.slots.items = omega (arith, c.len-at.ensures) in
    restored_more was.index.numbers.places c.add.new.self.numbers.places was.trees.items c.grow.new.trees.items c.renew_at.new.trees.items was.slots.items
    c.push.new.self.items c.in_ok-slot.slot
    (cell_of_data c.args.own) c.len-at.result c.requires.kept c.in_ok-push.ensures.items c.in_ok-slot.ensures c.requires.other last c.in_ok-has_numbers.ensures
    (subst (λ (n : CellKey). tree.Updates cell_key_cmp was.index.numbers.places c.add.new.self.numbers.places n (Some c.len-at.result)) c.in_ok-key.ensures
    c.in_ok-add.ensures.ok)
    (c.grow.ensures.kept None (cells_of was.slots.items)) c.in_ok-grow.ensures.ok
    (λ but.
    let due = c.renew_at.ensures.due (subst (λ (l : List Slot). AreTreesBut (Some c.len-at.result) c.grow.new.trees.items (cells_of l))
    (sym c.as_slice.ensures.value) but) in
    subst (λ (l : List Slot). AreTrees c.renew_at.new.trees.items (cells_of l)) c.as_slice.ensures.value due)
