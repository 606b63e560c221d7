use Rattle.std.proofs.Common.{sym, subst, rules}
use Rattle.std.specs.List.Sorted.{IsSorted}
use Rattle.beam_model.specs.Rendering.{log_cmp}
use Rattle.beam_values.proofs.Sorts.{sorted_from_sort_by}
use Rattle.book_core.proofs.CellOrder.{log_total}
use Rattle.book_core.proofs.outcome.logs_in_order.Goals as goal

pub returns-clause-ascending : goal.returns-clause-ascending
returns-clause-ascending c =
    subst (λ l. IsSorted log_cmp l) (sym c.from_vec.ensures)
    (sorted_from_sort_by log_cmp log_total c.sort_by.new.self.items c.in_ok-sort_by.ensures.sorted (λ a r q k. search rules))
