use Rattle.std.proofs.Common.{true}
use Rattle.group_cells.proofs.DueKeys.{updated}
use Rattle.group_cells.proofs.groups.due.DueCells.put_key_in.Goals as goal

pub returns-clause-moments : goal.returns-clause-moments
returns-clause-moments c = λ q. updated c.args.self.now.moments c.insert.new.self c.args.key.node c.args.key.place c.args.key.moment true c.in_ok-insert.ensures.updates q
