use Rattle.cell_checks.specs.Listing.{cells_in}
use Rattle.cell_checks.proofs.InOrder.{once_in_order}
use Rattle.cell_checks.proofs.one_group.is_sane_group.Goals as goal

pub returns-then-are_in_order : goal.returns-then-are_in_order
returns-then-are_in_order c =
    let order = c.are_in_order.ensures.order c.if-are_in_order.true in (
      (λ yes. let both = c.are_taken_and_apart.ensures.0 yes in record { once = once_in_order (cells_in c.args.cells.now) order; merged = both.0; apart = both.1 }),
      (λ sane. c.are_taken_and_apart.ensures.1 (sane.merged, sane.apart)),
    )
