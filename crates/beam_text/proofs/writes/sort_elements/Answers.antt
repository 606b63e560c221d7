use Rattle.std.proofs.Common.{subst}
use Rattle.std.specs.List.Sorted.{IsSorted}
use Rattle.beam_values.specs.Elements.{element_cmp}
use Rattle.std.proofs.lemmas.List.Sorted.{IsPermutation-trans}
use Rattle.beam_text.proofs.Sorts.{ascending_by_neighbours}
use Rattle.beam_text.proofs.writes.sort_elements.Goals as goal

pub returns-in_ok-sort-clause-moved : goal.returns-in_ok-sort-clause-moved
returns-in_ok-sort-clause-moved c =
    let given = c.args.elements.now.items in
    let by_window = c.sort_by_windows.new.elements.items in
    let ranked = c.sort_by_ranks.new.elements.items in
    let sorted = c.sort.new.self.items in
    IsPermutation-trans given by_window sorted c.sort_by_windows.ensures
    (IsPermutation-trans by_window ranked sorted c.sort_by_ranks.ensures c.in_ok-sort.ensures.permutation)

pub returns-else-not-is_sorted-clause-sorted : goal.returns-else-not-is_sorted-clause-sorted
returns-else-not-is_sorted-clause-sorted c =
    subst (IsSorted (λ x y. element_cmp x.now y.now)) c.as_slice.ensures.value
    (ascending_by_neighbours c.as_slice.result.now (λ k d within. (c.if-not-is_sorted.ensures.by_index k d within).1))
