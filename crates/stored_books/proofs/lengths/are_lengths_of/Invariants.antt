use Rattle.stored_books.proofs.OwnLengths.{AreOfNodes}
use Rattle.stored_books.proofs.lengths.are_lengths_of.Given as goal

abbrev pub invariant-loop-number : goal.invariant-loop-number
invariant-loop-number l = AreOfNodes l.plan.nodes l.files l.number l.at
