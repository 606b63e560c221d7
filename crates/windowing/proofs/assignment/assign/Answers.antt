use Rattle.windowing.proofs.Sliding.{few_of}
use Rattle.windowing.proofs.assignment.assign.Goals as goal

pub returns-in-Sliding-clause-few : goal.returns-in-Sliding-clause-few
returns-in-Sliding-clause-few c = few_of c.args.s.now c.args.time c.requires.allowed
