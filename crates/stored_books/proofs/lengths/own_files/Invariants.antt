use Rattle.stored_books.proofs.OwnLengths.{AreSoFar}
use Rattle.stored_books.proofs.lengths.own_files.Given as goal

abbrev pub invariant-loop-item : goal.invariant-loop-item
invariant-loop-item l = AreSoFar l.number l.item l.names l.files
