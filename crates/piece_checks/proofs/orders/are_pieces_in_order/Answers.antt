use Rattle.std.proofs.Common.{rules}
use Rattle.split_core.specs.Order.{piece_cmp}
use Rattle.piece_checks.proofs.Sorting.{ascending_where_sorted, sorted_answer, sorted_where_ascending}
use Rattle.piece_checks.proofs.orders.are_pieces_in_order.Goals as goal

pub returns : goal.returns
returns c =
    let sorted = sorted_answer piece_cmp c.args.pieces.now c.is_sorted_by.result c.is_sorted_by.ensures.cases (λ a r q k. search rules) in
    (λ yes. ascending_where_sorted c.args.pieces.now (sorted.0 yes), λ asc. sorted.1 (sorted_where_ascending c.args.pieces.now asc))
