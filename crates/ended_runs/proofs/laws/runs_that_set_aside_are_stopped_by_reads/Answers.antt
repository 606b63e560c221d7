use Rattle.std.proofs.Common.{ap, ◌∙◌}
use Rattle.book_core.specs.Book.{SeenBook, sets_aside}
use Rattle.ended_runs.specs.Unpoisoned.{IsPoisonBeside}
use Rattle.ended_runs.proofs.StoppedByReads.{read_from_opening}
use Rattle.ended_runs.proofs.TakesUnpoisoned.{opened_takes_none}
use Rattle.ended_runs.proofs.laws.runs_that_set_aside_are_stopped_by_reads.Goals as goal

pub returns : goal.returns
returns c known b strict aside lengths none reached =
    let opening = reached.opening in
    read_from_opening b reached.first opening
    (c.runs_on_that_set_aside_are_stopped_by_reads.ensures known reached.first b reached.steps strict (ap (λ (x : SeenBook). sets_aside x.plan) opening.is ∙ aside)
    (c.opened_and_stored_books_are_at_rest.ensures.opened b.plan b.files b.options reached.first opening) (opened_takes_none IsPoisonBeside known b reached lengths none) reached.run)
