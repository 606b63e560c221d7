use Rattle.watermarks.proofs.KeptMarks.{lowered}
use Rattle.watermarks.proofs.listed.lower.Goals as goal

pub returns-clause-taken : goal.returns-clause-taken
returns-clause-taken c = λ d. lowered c.args.items.now c.args.at d c.index-items-at.result c.index-items-at-2.result c.requires.within c.requires.held
