use Rattle.std.proofs.Common.{rules}
use Rattle.beam_values.specs.Cells.{pane_cmp}
use Rattle.piece_checks.proofs.Sorting.{sorted_answer}
use Rattle.piece_checks.proofs.orders.are_panes_in_order.Goals as goal

pub returns : goal.returns
returns c = sorted_answer pane_cmp c.args.panes.now c.is_sorted_by.result c.is_sorted_by.ensures.cases (λ a r q k. search rules)
