use Rattle.std.proofs.Common.{subst, sym, List, rules}
use Rattle.std.specs.List.Sorted.{IsSorted}
use Rattle.std.proofs.lemmas.Result.{IfOk-weaker}
use Rattle.beam_values.specs.Grouping.{IsPlainGrouping}
use Rattle.beam_values.specs.declared.element.Element.{Element}
use Rattle.beam_values.specs.Cells.{grouped_cmp}
use Rattle.beam_values.proofs.GroupedCells.{grouped_total}
use Rattle.beam_values.proofs.Groupings.{grouping_of_permutation}
use Rattle.beam_values.proofs.Sorts.{sorted_from_sort_by}
use Rattle.plain_model.proofs.grouping.plain_panes.Goals as goal

pub panes_of-requires : goal.panes_of-requires
panes_of-requires c =
    subst (λ (l : List Element). IsSorted grouped_cmp l) (sym c.as_slice.ensures.value)
    (sorted_from_sort_by grouped_cmp grouped_total c.sort_by.new.self.items c.in_ok-sort_by.ensures.sorted (λ a r q k. search rules))

pub returns-clause-plain : goal.returns-clause-plain
returns-clause-plain c =
    IfOk-weaker c.panes_of.result (IsPlainGrouping c.as_slice.result.now) (IsPlainGrouping c.args.elements)
    (λ panes g. grouping_of_permutation c.args.elements c.into_vec-sorted.result.items c.sort_by.new.self.items c.as_slice.result.now panes c.into_vec-sorted.ensures c.in_ok-sort_by.ensures.permutation c.as_slice.ensures.value g)
    c.panes_of.ensures.plain
