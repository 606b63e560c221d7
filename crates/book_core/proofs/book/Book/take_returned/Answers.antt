use Rattle.std.proofs.Common.{List, ◌≡◌, sym, subst, refl, ap, ◌∙◌}
use Rattle.std.specs.Prelude.{get_or, Some}
use Rattle.std.proofs.lemmas.Option.{get_or_from_slice_get}
use Rattle.beam_values.specs.declared.cell.Pane.{Pane}
use Rattle.book_core.specs.declared.live.Batch.{Batch}
use Rattle.book_core.specs.Book.{SeenBook}
use Rattle.book_core.specs.DueAt.{IsDueAs}
use Rattle.book_core.specs.Inside.{data_of}
use Rattle.book_core.specs.Jobs.{first_due, job_of}
use Rattle.book_core.specs.Steps.{IsRunning, IsFree, Take, TakenJob}
use Rattle.book_core.specs.declared.due.DueAt.TheVariants as at
use Rattle.book_core.specs.declared.live.Live.TheVariants as live
use Rattle.book_core.proofs.Steady.{makes_seen}
use Rattle.book_core.proofs.Takings.{makes_returned, returned_indexed}
use Rattle.book_core.proofs.book.Book.take_returned.Goals as goal

pub invariant_of-self : goal.invariant_of-self
invariant_of-self c = record {
  indexed =
      returned_indexed (data_of c.self.inside) c.args.slot c.args.at (subst IsRunning (sym c.self.view_is) c.requires.running)
      (subst (λ (b : SeenBook). IsFree b c.args.slot) (sym c.self.view_is) c.requires.free)
      (subst (λ (b : SeenBook). IsDueAs b (first_due b) (Some (at.GivenBack c.args.at))) (sym c.self.view_is) c.requires.due) c.self.invariant.indexed.sane
      c.self.inside.held c.self.inside.pieces.room c.self.inside.returned.room c.remove-batch.new.self.room c.remove-batch.result c.remove-batch.new.self.items _
      c.remove-batch.ensures.item c.remove-batch.ensures.rest refl c.remove-batch.ensures.kept c.self.invariant.indexed;
  grouped = c.self.invariant.grouped;
  counted = c.self.invariant.counted;
}

pub returns-clause-ok : goal.returns-clause-ok
returns-clause-ok c =
    let same : c.index-as_slice-at.result ≡ c.remove-batch.result =
    c.index-as_slice-at.is
    ∙ ap (λ l. get_or l c.args.at c.index-as_slice-at.result) c.as_slice.ensures
    ∙ get_or_from_slice_get c.self.inside.returned.items c.args.at c.remove-batch.result c.index-as_slice-at.result c.remove-batch.ensures.item in
    makes_seen (data_of c.self.inside) _ _ c.args.slot Take (TakenJob c.in_ok-job.job) c.self.view_is
    (makes_returned (data_of c.self.inside) c.args.slot c.args.at (subst IsRunning (sym c.self.view_is) c.requires.running)
    (subst (λ (b : SeenBook). IsFree b c.args.slot) (sym c.self.view_is) c.requires.free)
    (subst (λ (b : SeenBook). IsDueAs b (first_due b) (Some (at.GivenBack c.args.at))) (sym c.self.view_is) c.requires.due) c.self.invariant.indexed.sane
    c.remove-batch.result c.in_ok-job.job c.remove-batch.new.self.items _ c.remove-batch.ensures.item
    (c.in_ok-job.ensures ∙ ap (λ (l : List Pane). job_of l (live.Batch c.index-as_slice-at.result)) c.as_slice-2.ensures ∙ ap (λ (b : Batch). job_of c.self.inside.results.panes.items (live.Batch b)) same) c.remove-batch.ensures.rest refl)
