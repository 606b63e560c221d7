use Rattle.std.proofs.Common.{◌∙◌, List, ap, map, rules, sym, subst}
use Rattle.std.specs.List.Sorted.{IsSorted}
use Rattle.beam_values.specs.Bags.{IsSameBag}
use Rattle.beam_values.specs.Grouping.{part_of}
use Rattle.beam_values.specs.Orders.{value_cmp}
use Rattle.beam_values.specs.declared.value.Value.{Value}
use Rattle.beam_values.proofs.Bags.{bag_sym, bag_trans, bag_from_same, bag_from_permutation}
use Rattle.beam_values.proofs.Sorts.{sorted_from_sort_by}
use Rattle.group_cells.specs.Cells.{entries_held}
use Rattle.group_cells.proofs.FiredPanes.{value_total}
use Rattle.group_cells.proofs.firing.parts_of.Goals as goal

pub returns-clause-ascending : goal.returns-clause-ascending
returns-clause-ascending c =
    subst (λ (l : List Value). IsSorted value_cmp l) (sym c.from_vec.ensures)
    (sorted_from_sort_by value_cmp value_total c.sort_by.new.self.items c.in_ok-sort_by.ensures.sorted (λ a r q k. search rules))

pub returns-clause-those : goal.returns-clause-those
returns-clause-those c =
    let wanted = map (λ entry. part_of entry.element) (entries_held c.args.mode c.args.entries.now) in
    subst (λ (l : List Value). IsSameBag l wanted) (sym c.from_vec.ensures)
    (bag_trans c.sort_by.new.self.items c.in_ok-parts.parts.items wanted
    (bag_sym c.in_ok-parts.parts.items c.sort_by.new.self.items (bag_from_permutation c.in_ok-parts.parts.items c.sort_by.new.self.items c.in_ok-sort_by.ensures.permutation))
    (bag_from_same c.in_ok-parts.parts.items wanted (c.in_ok-parts.ensures ∙ ap (map (λ entry. part_of entry.element)) c.those_from.ensures)))
