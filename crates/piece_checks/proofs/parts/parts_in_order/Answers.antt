use Rattle.std.proofs.Common.{rules}
use Rattle.piece_checks.specs.Parts.{part_cmp}
use Rattle.piece_checks.proofs.Tiling.{part_total}
use Rattle.beam_values.proofs.Sorts.{sorted_from_sort_by}
use Rattle.piece_checks.proofs.parts.parts_in_order.Goals as goal

pub returns-clause-sorted : goal.returns-clause-sorted
returns-clause-sorted c = sorted_from_sort_by part_cmp part_total c.sort_unstable_by.new.self.items c.sort_unstable_by.ensures.sorted (λ a r q k. search rules)
