use Rattle.std.proofs.Common.{rules}
use Rattle.std.proofs.lemmas.Cmp.{back_total}
use Rattle.beam_values.proofs.Sorts.{sorted_from_sort_by}
use Rattle.combine_lift.specs.Tables.{row_cmp}
use Rattle.combine_lift.proofs.Absorbing.{reverse_sorted}
use Rattle.combine_lift.proofs.RowOrder.{row_total}
use Rattle.combine_lift.proofs.merging.settle.Goals as goal

pub returns-clause-falling : goal.returns-clause-falling
returns-clause-falling g c =
    reverse_sorted row_cmp c.sort_unstable_by.new.self.items
    (sorted_from_sort_by (λ x y. row_cmp y x) (back_total row_total) c.sort_unstable_by.new.self.items c.sort_unstable_by.ensures.sorted (λ a r q k. search rules))
