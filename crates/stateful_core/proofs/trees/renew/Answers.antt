use Rattle.std.proofs.Common.{arith, length}
use Rattle.stateful_core.specs.Seen.{cell_of}
use Rattle.stateful_core.proofs.TreeSteps.{renewed_all, renewed_place}
use Rattle.stateful_core.proofs.trees.renew.Goals as goal

pub returns-clause-due : goal.returns-clause-due
returns-clause-due c = λ cells there before.
    renewed_all c.args.trees.now.items c.set_entry.new.trees.items c.args.at cells (cell_of c.args.slot.now) c.entry_of.result (length c.set_entry.new.trees.items) (omega arith) c.set_entry.ensures
    c.entry_of.ensures there before

pub returns-clause-places : goal.returns-clause-places
returns-clause-places c = λ n i h.
    renewed_place c.args.trees.now.items c.set_entry.new.trees.items c.args.slot.now.node c.args.at c.entry_of.result (length c.set_entry.new.trees.items) (omega arith) c.set_entry.ensures n i h
