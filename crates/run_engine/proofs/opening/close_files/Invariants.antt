use Rattle.run_engine.proofs.Opens.{BecomesUpTo, IsClosed}
use Rattle.run_engine.proofs.opening.close_files.Given as goal

abbrev pub invariant-loop-kit : goal.invariant-loop-kit
invariant-loop-kit g l = BecomesUpTo l.kit-index l.initial.kits l.kits IsClosed
