use Rattle.stateful_core.specs.Seen.{cells_of}
use Rattle.stateful_core.proofs.Sought.{number_there}
use Rattle.stateful_core.proofs.finding.number_of.Goals as goal

pub returns-in-Some : goal.returns-in-Some
returns-in-Some c =
    number_there c.args.index.now.numbers.places (cells_of c.args.slots.now) (record { node = c.args.node; span = c.args.span; key = c.args.key.now }) c.in-Some.at c.requires c.in-Some.ensures
