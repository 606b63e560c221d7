-- What a search finds in values that are in order.
use Rattle.std.proofs.Common.{◌≡◌, ℕ, ◌+◌, ◌<◌, ◌≤◌, Bool, true, false, List, length, get_or, Ok, Err, Result, sym, ap, ◌∙◌, ⊎_elim}
use Rattle.std.specs.Cmp.{IsTotalOrder}
use Rattle.std.specs.List.{list_any, All}
use Rattle.std.specs.List.Sorted.{IsBinarySearchResult, IsSearchInRange, IsSorted}
use Rattle.std.specs.Ordering.{is_eq}
use Rattle.std.specs.Prelude.{bytes_eq}
use Rattle.std.specs.Result.{is_ok}
use Rattle.std.specs.declared.cmp.Ordering.{Ordering}
use Rattle.std.specs.declared.cmp.Ordering.TheVariants.{Less, Equal, Greater}
use Rattle.std.proofs.lemmas.Bool.{cases_lt}
use Rattle.std.proofs.lemmas.Cmp.{nat_list_cmp_total, on_total}
use Rattle.std.proofs.lemmas.List.Elements.{All-from_all_within}
use Rattle.std.proofs.lemmas.List.Folds.{list_any_at, list_any_none}
use Rattle.std.proofs.lemmas.List.Sorted.{searchable_from_sorted}
use Rattle.std.proofs.lemmas.Map.Text.{is_eq-slice_cmp}
use Rattle.beam_values.specs.Orders.{value_cmp}
use Rattle.beam_values.specs.Spelling.{spelling}
use Rattle.beam_values.specs.declared.value.Value.{Value}
use Rattle.keyed_state.specs.Bags.{holds_value}

pub value_total : IsTotalOrder value_cmp
value_total = on_total spelling nat_list_cmp_total

abbrev same : Value → Value → Bool
same v held = bytes_eq (spelling held) (spelling v)

decided : (held v : Value) (o : Ordering) → value_cmp held v ≡ o → same v held ≡ is_eq o
decided held v o e = sym (is_eq-slice_cmp (spelling held) (spelling v)) ∙ ap is_eq e

-- it finds a value where one is held
pub search_holds : (sorted : List Value) (v : Value) (r : Result ℕ ℕ) → IsSorted value_cmp sorted → IsSearchInRange r (length sorted)
    → IsBinarySearchResult (λ held. value_cmp held v) sorted r → is_ok r ≡ holds_value sorted v
search_holds sorted v (Ok i) order inside found =
    sym (list_any_at (same v) sorted i v inside (decided (get_or sorted i v) v Equal (found v)))
search_holds sorted v (Err i) order inside found =
    let parts = found (searchable_from_sorted value_total (λ x. x) sorted v order) in
    sym (list_any_none (same v) sorted (All-from_all_within (λ held. same v held ≡ false) sorted (λ k d low high.
    ⊎_elim
    (λ below. decided (get_or sorted k d) v Less (parts.0 k d low below))
    (λ above. decided (get_or sorted k d) v Greater (parts.1 k d above high))
    (cases_lt k i))))
