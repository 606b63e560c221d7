use Rattle.std.proofs.Common.{◌≡◌, true, List}
use Rattle.std.specs.Prelude.{Some}
use Rattle.beam_values.specs.declared.file_text.FileText.{FileText}
use Rattle.book_core.specs.Book.{SeenBook}
use Rattle.book_core.specs.Runs.{AreTold, HonestlyReached}
use Rattle.book_core.specs.Work.{IsPoisonJob, Surroundings}
use Rattle.ended_runs.specs.RunsOn.{FailsByReads}
use Rattle.ended_runs.specs.Unpoisoned.{TakesNoPoison}
use Rattle.ended_runs.proofs.StoppedByReads.{attempts_from_opening, calls_from_opening}
use Rattle.ended_runs.proofs.TakesUnpoisoned.{opened_takes_none, where_told}
use Rattle.ended_runs.proofs.laws.runs_without_poison_fail_by_reads.Goals as goal

pub returns : goal.returns
returns c =
    let fails : (known : Surroundings) (told : List FileText) (b : SeenBook) → known.told ≡ Some told → known.strict ≡ true → AreTold told b → TakesNoPoison known b.plan b.options
    → (reached : HonestlyReached known b) → FailsByReads reached.first b =
    λ known told b tells strict lengths none reached.
    c.runs_on_without_poison_fail_by_reads.ensures known told reached.first b reached.steps tells strict
    (c.opened_and_stored_books_are_at_rest.ensures.opened b.plan b.files b.options reached.first reached.opening)
    (opened_takes_none (IsPoisonJob known.told) known b reached (where_told known told b tells lengths) none) reached.run in
    record {
      calls = λ known told b tells strict lengths none reached.
          calls_from_opening b reached.first reached.opening (fails known told b tells strict lengths none reached);
      reads = λ known told b note tells strict lengths none reached.
          attempts_from_opening b reached.first reached.opening (fails known told b tells strict lengths none reached) note;
    }
