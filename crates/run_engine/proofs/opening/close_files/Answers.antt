use Rattle.std.proofs.Common.{arith}
use Rattle.run_engine.proofs.Opens.{IsClosed, closed_more, whole_becomes}
use Rattle.run_engine.proofs.opening.close_files.Goals as goal

pub loop-kit-preserved : goal.loop-kit-preserved
loop-kit-preserved g c = closed_more c.loop-kit.kit-index c.args.kits.now c.loop-kit.kits c.kit-item.result c.new.result c.loop-kit.invariant (omega arith) c.new.ensures

pub returns : goal.returns
returns g c = whole_becomes IsClosed c.loop-kit.kit-index c.args.kits.now c.loop-kit.kits c.loop-kit.invariant (omega arith)
