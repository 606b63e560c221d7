use Rattle.std.proofs.Common.{List, refl, ap, sym, subst, ◌∙◌}
use Rattle.std.specs.Prelude.{◌∷◌, [], ◌≡◌, None}
use Rattle.std.specs.List.{flat_map}
use Rattle.std.specs.List.Sorted.{IsPermutation}
use Rattle.std.proofs.lemmas.List.Folds.{flat_map-map}
use Rattle.book_core.specs.Book.{SeenBook}
use Rattle.book_core.specs.Inside.{data_of}
use Rattle.book_core.specs.Queues.{SeenQueue}
use Rattle.book_core.specs.declared.live.WaitingPane.{WaitingPane}
use Rattle.book_core.proofs.StoredBook.{none_live, seen_data}
use Rattle.book_core.proofs.book.Book.book_data.Goals as goal

pub copy_cells-requires-clause-sane : goal.copy_cells-requires-clause-sane
copy_cells-requires-clause-sane c = (c.self.inside.graph, c.self.inside.results.commits.items, c.self.invariant.indexed.sane.keys.each)

pub copy_cells-requires-clause-free : goal.copy_cells-requires-clause-free
copy_cells-requires-clause-free c =
    none_live (data_of c.self.inside) c.self.invariant.indexed.sane (subst (λ (b : SeenBook). b.slots ≡ None ∷ []) (sym c.self.view_is) c.requires.slot)

pub returns : goal.returns
returns c =
    let queues = c.self.inside.queues.items in
    seen_data (data_of c.self.inside) c.args.self.now _ c.self.view_is c.self.invariant.indexed.sane c.requires.slot c.requires.running (record {
      plan = c.in_ok-plan.ensures.plan ∙ c.plan.ensures.value;
      files = c.in_ok-plan.ensures.files ∙ c.as_slice.ensures;
      options = refl;
      pending = c.in_ok-pending.ensures.pending;
      moved = subst (λ (panes : List WaitingPane). IsPermutation panes c.in_ok-pending.field-0.waiting)
          (ap (flat_map (λ (q : SeenQueue). q.panes)) c.as_slice-2.ensures.value
          ∙ sym (flat_map-map (λ (q : List WaitingPane). q) (λ (q : SeenQueue). q.panes) queues)) c.in_ok-pending.ensures.waiting;
      order = c.in_ok-pending.ensures.order;
      returned = c.in_ok-pending.ensures.returned ∙ c.as_slice-3.ensures;
      cells = c.in_ok-cells.ensures.cells;
      dropped = c.in_ok-cells.ensures.dropped;
      keys = c.in_ok-cells.ensures.keys;
      formed = c.in_ok-cells.ensures.formed;
      panes = c.in_ok-panes.ensures.panes;
      done = c.in_ok-panes.ensures.done;
      dead = c.in_ok-panes.ensures.dead;
      written = c.in_ok-panes.ensures.written;
      commits = c.in_ok-panes.ensures.commits;
      calls = refl;
      reads = refl;
    })
