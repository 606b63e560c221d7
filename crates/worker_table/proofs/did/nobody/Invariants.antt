use Rattle.std.proofs.Common.{[]}
use Rattle.worker_table.proofs.did.nobody.Given as goal

abbrev pub ghost-of : goal.ghost-of
ghost-of a = []
