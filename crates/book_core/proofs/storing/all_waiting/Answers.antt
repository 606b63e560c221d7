use Rattle.std.proofs.Common.{rules, subst, sym, List}
use Rattle.std.specs.List.Sorted.{IsNonDecreasingBy}
use Rattle.std.proofs.lemmas.List.Sorted.{IsNonDecreasingBy-from_sort_by_key}
use Rattle.book_core.specs.declared.live.WaitingPane.{WaitingPane}
use Rattle.book_core.proofs.storing.all_waiting.Goals as goal

pub returns-clause-order : goal.returns-clause-order
returns-clause-order c =
    subst (λ (l : List WaitingPane). IsNonDecreasingBy (λ (w : WaitingPane). w.pane) l) (sym c.from_vec.ensures)
    (IsNonDecreasingBy-from_sort_by_key (λ (w : WaitingPane). w.pane) _ c.sort_unstable_by_key.ensures.sorted (λ a r q k. search rules))
