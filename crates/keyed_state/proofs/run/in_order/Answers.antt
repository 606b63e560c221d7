use Rattle.std.proofs.Common.{◌≡◌, ◌∙◌, List, subst, sym, ap, rules}
use Rattle.std.specs.List.Sorted.{IsSorted}
use Rattle.std.specs.Prelude.{bytes_eq}
use Rattle.std.proofs.lemmas.List.Sorted.{list_any-IsPermutation}
use Rattle.beam_values.specs.Orders.{value_cmp}
use Rattle.beam_values.specs.Spelling.{spelling}
use Rattle.beam_values.specs.declared.value.Value.{Value}
use Rattle.beam_values.proofs.Sorts.{sorted_from_sort_by}
use Rattle.keyed_state.specs.Bags.{holds_value}
use Rattle.keyed_state.proofs.Searches.{value_total}
use Rattle.keyed_state.proofs.run.in_order.Goals as goal

pub returns-clause-order : goal.returns-clause-order
returns-clause-order c =
    subst (λ (l : List Value). IsSorted value_cmp l) (sym c.from_vec.ensures)
    (sorted_from_sort_by value_cmp value_total c.sort_by.new.self.items c.in_ok-sort_by.ensures.sorted (λ a r q k. search rules))

pub returns-clause-same : goal.returns-clause-same
returns-clause-same c = λ v.
    ap (λ (l : List Value). holds_value l v) c.from_vec.ensures
    ∙ sym (list_any-IsPermutation (λ held. bytes_eq (spelling held) (spelling v)) c.into_vec-sorted.result.items c.sort_by.new.self.items c.sort_by.ensures.permutation)
    ∙ ap (λ (l : List Value). holds_value l v) c.into_vec-sorted.ensures
