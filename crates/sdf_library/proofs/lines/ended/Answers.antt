use Rattle.std.proofs.Common.{arith}
use Rattle.sdf_library.proofs.WholeLines.{feed_from}
use Rattle.sdf_library.proofs.lines.ended.Goals as goal

pub returns-in-Some-clause-whole : goal.returns-in-Some-clause-whole
returns-in-Some-clause-whole c k below =
    feed_from c.args.bytes.now c.in-Some.at k c.in-Some.ensures.0.high (omega (arith, below)) c.in-Some.ensures.1
