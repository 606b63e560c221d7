use Rattle.ended_runs.proofs.StoppedByReads.{fails_by_reads}
use Rattle.ended_runs.proofs.TakesUnpoisoned.{works_no_poison}
use Rattle.ended_runs.proofs.Unpoisoned.{poison_alone}
use Rattle.ended_runs.proofs.laws.runs_on_without_poison_fail_by_reads.Goals as goal

pub returns : goal.returns
returns c known told first b steps tells strict rest none run =
    fails_by_reads known first rest (λ x on. poison_alone known told tells strict x (works_no_poison known first rest none x on)) steps b run
