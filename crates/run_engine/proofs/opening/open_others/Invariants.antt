use Rattle.bundle_work.specs.Openings.{file_names}
use Rattle.run_engine.proofs.Opens.{BecomesUpTo, HasOpened}
use Rattle.run_engine.proofs.opening.open_others.Given as goal

abbrev pub invariant-loop-at : goal.invariant-loop-at
invariant-loop-at g l = BecomesUpTo l.at l.initial.kits l.kits (HasOpened g.S.Store l.attempts (file_names l.graph) l.first)
