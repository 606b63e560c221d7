use Rattle.std.proofs.Common.{◌≡◌, List, sym, ap, subst, ◌∙◌, rules}
use Rattle.std.specs.List.Sorted.{IsSorted}
use Rattle.std.proofs.lemmas.Fn.{always_returns_same}
use Rattle.beam_values.specs.Orders.{value_cmp}
use Rattle.beam_values.specs.declared.value.Value.{Value}
use Rattle.keyed_state.specs.Bags.{holds_value}
use Rattle.keyed_state.proofs.Searches.{search_holds}
use Rattle.keyed_state.proofs.run.Run.holds.Goals as goal

pub returns : goal.returns
returns c =
    let v = c.args.value.now in
    let sorted = c.as_slice.result.now in
    let found = c.binary_search_by.ensures.position (λ held. value_cmp held v) (always_returns_same _ (λ a r. r ≡ value_cmp a.0.now v) _ (λ a r f k. search rules)) in
    let order = subst (λ (l : List Value). IsSorted value_cmp l) (sym c.as_slice.ensures) c.self.invariant.order in
    c.is_ok.ensures.value ∙ search_holds sorted v c.binary_search_by.result order c.binary_search_by.ensures.bound found
    ∙ ap (λ (l : List Value). holds_value l v) c.as_slice.ensures ∙ c.self.invariant.same v ∙ ap (λ (l : List Value). holds_value l v) c.self.view_is
