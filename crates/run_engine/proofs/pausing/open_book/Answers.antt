use Rattle.std.proofs.Common.{◌≡◌, List, [], ◌∷◌, ◌++◌, sym, ap, subst, ◌∙◌}
use Rattle.std.specs.Prelude.{Option, None}
use Rattle.beam_values.specs.declared.piece.FileLen.{FileLen}
use Rattle.book_core.specs.Book.{SeenBook}
use Rattle.book_core.specs.Runs.{IsOpening}
use Rattle.book_core.specs.declared.live.Live.{Live}
use Rattle.run_engine.specs.PlanRun.{AreFirstLengths}
use Rattle.run_engine.proofs.pausing.open_book.Goals as goal

pub returns-clause-book : goal.returns-clause-book
returns-clause-book c =
    let first = c.in_ok-book.book in
    let opening = c.in_ok-book.ensures in
    let step = c.in_ok-_slot.ensures.ok None in
    let none : first.slots ≡ [] = ap (λ (b : SeenBook). b.slots) opening.is in
    let files = ap (λ (b : SeenBook). b.files) step.2 ∙ ap (λ (b : SeenBook). b.files) opening.is in
    record {
      first = first;
      opening = subst (λ (f : List FileLen). IsOpening c.args.graph f c.args.options.now first) c.in_ok-lengths.ensures.exact opening;
      is = step.2 ∙ ap (λ (l : List (Option Live)). record first { slots = l ++ None ∷ [] }) none;
      within = step.3;
      lengths = λ told opened are. subst (AreFirstLengths told c.args.graph) (sym files) (c.in_ok-lengths.ensures.items told opened are);
    }
