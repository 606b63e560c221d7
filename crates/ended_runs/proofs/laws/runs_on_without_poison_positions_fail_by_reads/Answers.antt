use Rattle.std.proofs.Common.{sym, subst}
use Rattle.ended_runs.specs.DeadLetters.{HasNoPoisonPosition}
use Rattle.ended_runs.proofs.NoPoisonPositions.{works_none}
use Rattle.ended_runs.proofs.StoppedByReads.{fails_by_reads}
use Rattle.ended_runs.proofs.TakesUnpoisoned.{works_no_poison_beside}
use Rattle.ended_runs.proofs.Unpoisoned.{poison_alone}
use Rattle.ended_runs.proofs.laws.runs_on_without_poison_positions_fail_by_reads.Goals as goal

pub returns : goal.returns
returns c known told first b steps tells strict rest positions none run =
    fails_by_reads known first rest
    (λ x on. poison_alone known told tells strict x
    (works_none known told tells x (subst (HasNoPoisonPosition told) (sym on.same.plan) positions) (works_no_poison_beside known first rest none x on))) steps b run
