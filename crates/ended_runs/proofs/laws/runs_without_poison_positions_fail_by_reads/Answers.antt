use Rattle.std.proofs.Common.{ap, sym, subst}
use Rattle.book_core.specs.Book.{SeenBook}
use Rattle.ended_runs.specs.DeadLetters.{HasNoPoisonPosition}
use Rattle.ended_runs.specs.Unpoisoned.{IsPoisonBeside}
use Rattle.ended_runs.proofs.StoppedByReads.{attempts_from_opening}
use Rattle.ended_runs.proofs.TakesUnpoisoned.{opened_takes_none, where_told}
use Rattle.ended_runs.proofs.laws.runs_without_poison_positions_fail_by_reads.Goals as goal

pub returns : goal.returns
returns c known told b note tells strict lengths positions none reached =
    let opening = reached.opening in
    attempts_from_opening b reached.first opening
    (c.runs_on_without_poison_positions_fail_by_reads.ensures known told reached.first b reached.steps tells strict
    (c.opened_and_stored_books_are_at_rest.ensures.opened b.plan b.files b.options reached.first opening)
    (subst (HasNoPoisonPosition told) (sym (ap (λ (x : SeenBook). x.plan) opening.is)) positions)
    (opened_takes_none IsPoisonBeside known b reached (where_told known told b tells lengths) none) reached.run) note
