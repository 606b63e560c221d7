use Rattle.std.specs.Prelude.{List}
use Rattle.std.specs.List.Sorted.{IsSorted}
use Rattle.std.proofs.Common.{sym, subst}
use Rattle.beam_values.specs.Cells.{pane_cmp}
use Rattle.beam_values.specs.declared.cell.Pane.{Pane}
use Rattle.beam_values.specs.declared.piece.Dead.{Dead}
use Rattle.beam_values.specs.declared.piece.Done.{Done}
use Rattle.book_core.specs.Changes.{dead_cmp, done_cmp}
use Rattle.ended_runs.proofs.laws.outcomes_are_in_order.Goals as goal

pub returns : goal.returns
returns c = record {
  done = λ told b o reached of. subst (λ (l : List Done). IsSorted done_cmp l) (sym of.done) (c.reached_books_are_well_formed.ensures told b reached).done;
  dead = λ told b o reached of. subst (λ (l : List Dead). IsSorted dead_cmp l) (sym of.dead) (c.reached_books_are_well_formed.ensures told b reached).dead;
  cells = λ told b o reached of. of.cells_in_order;
  logs = λ told b o reached of. of.logs_in_order;
  panes = λ told b o reached of. subst (λ (l : List Pane). IsSorted pane_cmp l) (sym of.panes) (c.cells_are_kept.ensures.cells told b reached).legal.ordered;
}
