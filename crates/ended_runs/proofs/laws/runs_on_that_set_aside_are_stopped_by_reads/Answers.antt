use Rattle.std.proofs.Common.{◌≡◌, true, sym, subst}
use Rattle.beam_values.specs.declared.plan.Plan.{Plan}
use Rattle.book_core.specs.Book.{sets_aside}
use Rattle.ended_runs.proofs.StoppedByReads.{aside_ends, stopped_by_read}
use Rattle.ended_runs.proofs.TakesUnpoisoned.{works_no_poison_beside}
use Rattle.ended_runs.proofs.laws.runs_on_that_set_aside_are_stopped_by_reads.Goals as goal

pub returns : goal.returns
returns c known first b steps strict aside rest none run =
    stopped_by_read known first rest
    (λ x on. aside_ends known strict x (subst (λ (p : Plan). sets_aside p ≡ true) (sym on.same.plan) aside) (works_no_poison_beside known first rest none x on)) steps b run
