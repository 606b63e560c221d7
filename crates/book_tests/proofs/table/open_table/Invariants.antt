use Rattle.std.proofs.Common.{None, false}
use Rattle.book_tests.proofs.table.open_table.Given as goal

abbrev pub ghost-new : goal.ghost-new
ghost-new a = record { told = None; strict = false }
