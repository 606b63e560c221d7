use Rattle.std.proofs.Common.{sym, subst, rules}
use Rattle.std.proofs.lemmas.List.Sorted.{IsPermutation-trans}
use Rattle.std.specs.List.Sorted.{IsPermutation, IsSorted}
use Rattle.beam_values.specs.Cells.{cell_cmp}
use Rattle.beam_values.proofs.Sorts.{sorted_from_sort_by}
use Rattle.book_core.proofs.CellOrder.{cell_total}
use Rattle.book_core.proofs.outcome.in_order.Goals as goal

pub returns-clause-ascending : goal.returns-clause-ascending
returns-clause-ascending c =
    subst (λ l. IsSorted cell_cmp l) (sym c.from_vec.ensures)
    (sorted_from_sort_by cell_cmp cell_total c.sort_by.new.self.items c.in_ok-sort_by.ensures.sorted (λ a r q k. search rules))

pub returns-clause-same : goal.returns-clause-same
returns-clause-same c =
    subst (λ l. IsPermutation c.args.cells l) (sym c.from_vec.ensures)
    (subst (λ l. IsPermutation l c.sort_by.new.self.items) c.into_vec-cells.ensures
    (IsPermutation-trans c.into_vec-cells.result.items c.sort_by_ranks.new.cells.items c.sort_by.new.self.items c.sort_by_ranks.ensures c.in_ok-sort_by.ensures.permutation))
