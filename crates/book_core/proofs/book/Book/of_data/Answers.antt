use Rattle.std.proofs.Common.{length, refl, ap, sym, ◌∙◌}
use Rattle.stateful_core.specs.Data.{cells_of_data}
use Rattle.book_core.specs.Book.{waiting_in}
use Rattle.book_core.specs.Stored.{book_of}
use Rattle.book_core.proofs.StoredBook.{alike_same, restored_indexed}
use Rattle.book_core.proofs.book.Book.of_data.Goals as goal

pub invariant_of-result : goal.invariant_of-result
invariant_of-result c = record {
  indexed = restored_indexed c.args.graph c.args.stored _ c.in_ok-pieces.field-0.held c.in_ok-pieces.field-0.pieces.room c.from_list-6.result.room c.requires
      (record {
        plan = c.requires.of_plan;
        files = refl;
        options = refl;
        pending = sym c.in_ok-pieces.ensures.pieces;
        slots = sym c.in_ok-pieces.ensures.slots;
        queues = sym c.in_ok-pieces.ensures.queues;
        returned = sym c.from_list-6.ensures;
        cells = ap (λ g. g.cells) (sym c.in_ok-groups.ensures.groups);
        dropped = ap (λ g. g.dropped) (sym c.in_ok-groups.ensures.groups);
        keys = sym c.in_ok-groups.ensures.keys;
        panes = sym c.from_list.ensures;
        done = sym c.from_list-2.ensures;
        dead = sym c.from_list-3.ensures;
        written = sym c.from_list-4.ensures;
        commits = sym c.from_list-5.ensures;
        calls = refl;
        reads = refl;
        stopped = refl;
      }) (c.in_ok-pieces.ensures.sized ∙ ap (λ plan. length plan.nodes) c.plan-plan.ensures.value) c.in_ok-pieces.ensures.held;
  grouped = ap (λ g. g.plan) c.in_ok-groups.ensures.groups ∙ c.plan-plan.ensures.value;
  counted = c.count_waiting-waiting.ensures ∙ ap waiting_in (ap cells_of_data c.as_slice.ensures ∙ sym c.in_ok-groups.ensures.keys);
}

pub returns : goal.returns
returns c = sym (alike_same (book_of c.args.stored) _ (record {
  plan = c.requires.of_plan;
  files = refl;
  options = refl;
  pending = sym c.in_ok-pieces.ensures.pieces;
  slots = sym c.in_ok-pieces.ensures.slots;
  queues = sym c.in_ok-pieces.ensures.queues;
  returned = sym c.from_list-6.ensures;
  cells = ap (λ g. g.cells) (sym c.in_ok-groups.ensures.groups);
  dropped = ap (λ g. g.dropped) (sym c.in_ok-groups.ensures.groups);
  keys = sym c.in_ok-groups.ensures.keys;
  panes = sym c.from_list.ensures;
  done = sym c.from_list-2.ensures;
  dead = sym c.from_list-3.ensures;
  written = sym c.from_list-4.ensures;
  commits = sym c.from_list-5.ensures;
  calls = refl;
  reads = refl;
  stopped = refl;
}))
