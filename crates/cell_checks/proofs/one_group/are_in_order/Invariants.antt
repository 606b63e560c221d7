use Rattle.std.proofs.Common.{◌≡◌, false}
use Rattle.std.specs.List.{AllAdjacentBelow}
use Rattle.beam_values.specs.Spans.{same_span}
use Rattle.cell_checks.specs.Listing.{cells_in}
use Rattle.cell_checks.proofs.one_group.are_in_order.Given as goal

abbrev pub invariant-loop-i : goal.invariant-loop-i
invariant-loop-i l = AllAdjacentBelow (λ a b. same_span a.span b.span ≡ false) (cells_in l.cells) l.i
