use Rattle.plan_reader.proofs.Seen.{added}
use Rattle.plan_reader.proofs.names.add_name.Goals as goal

pub returns : goal.returns
returns c = rw c.in_ok-insert.ensures.keys (added c.args.names.now.keys c.args.name c.requires)
