use Rattle.watermarks.proofs.KeptMarks.{raised}
use Rattle.watermarks.proofs.listed.raise.Goals as goal

pub returns-clause-added : goal.returns-clause-added
returns-clause-added c = λ d. raised c.args.items.now c.args.at d c.index-items-at.result c.index-items-at-2.result c.requires.within
