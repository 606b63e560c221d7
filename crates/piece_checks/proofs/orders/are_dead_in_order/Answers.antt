use Rattle.std.proofs.Common.{rules}
use Rattle.piece_checks.specs.Orders.{dead_cmp}
use Rattle.piece_checks.proofs.Sorting.{sorted_answer}
use Rattle.piece_checks.proofs.orders.are_dead_in_order.Goals as goal

pub returns : goal.returns
returns c = sorted_answer dead_cmp c.args.dead.now c.is_sorted_by.result c.is_sorted_by.ensures.cases (λ a r q k. search rules)
