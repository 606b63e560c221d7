use Rattle.group_cells.proofs.DueKeys.{moments_more, moments_noted}
use Rattle.group_cells.proofs.groups.due.DueCells.add.Goals as goal

pub returns-clause-kept : goal.returns-clause-kept
returns-clause-kept c = λ plan cells h.
    moments_more c.note.new.self (record { unseen = c.note.new.self.unseen; moments = c.insert.new.self; moved = c.note.new.self.moved }) c.args.key c.in_ok-insert.ensures.updates
    c.in_ok-note.ensures.noted (λ q there. there) plan cells (c.note.ensures.kept plan cells h)

pub returns-in_err-insert-clause-kept : goal.returns-in_err-insert-clause-kept
returns-in_err-insert-clause-kept c = λ plan cells h.
    moments_noted c.note.new.self (record { unseen = c.note.new.self.unseen; moments = c.insert.new.self; moved = c.note.new.self.moved }) c.in_err-insert.ensures.err (λ q there. there) plan cells
    (c.note.ensures.kept plan cells h)
