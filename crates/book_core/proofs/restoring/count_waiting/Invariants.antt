use Rattle.std.proofs.Common.{◌≡◌, ◌+◌, drop}
use Rattle.stateful_core.specs.Data.{cells_of_data}
use Rattle.book_core.specs.Book.{waiting_in}
use Rattle.book_core.proofs.restoring.count_waiting.Given as goal

abbrev pub invariant-loop-key : goal.invariant-loop-key
invariant-loop-key l = l.count + waiting_in (cells_of_data (drop l.key-index l.keys)) ≡ waiting_in (cells_of_data l.keys)
