use Rattle.std.proofs.Common.{rules}
use Rattle.piece_checks.specs.Orders.{done_cmp}
use Rattle.piece_checks.proofs.Sorting.{sorted_answer}
use Rattle.piece_checks.proofs.orders.are_done_in_order.Goals as goal

pub returns : goal.returns
returns c = sorted_answer done_cmp c.args.done.now c.is_sorted_by.result c.is_sorted_by.ensures.cases (λ a r q k. search rules)
