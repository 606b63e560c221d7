use Rattle.stateful_core.proofs.trees.entry_of.Goals as goal

pub returns : goal.returns
returns c = record { due = λ mark m. c.due_of.ensures.due mark m; held = c.cell_hold.ensures }
