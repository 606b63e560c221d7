use Rattle.std.proofs.Common.{◌≡◌, take}
use Rattle.book_core.specs.Book.{panes_of}
use Rattle.book_core.proofs.due.copy_panes.Given as goal

abbrev pub invariant-loop-one : goal.invariant-loop-one
invariant-loop-one l = l.copies ≡ panes_of l.panes (take l.one-index l.waiting)
