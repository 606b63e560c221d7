-- What `sort_by` leaves, where its closure answers by a total order.
use Rattle.std.proofs.Common.{◌≡◌, List, ap}
use Rattle.std.specs.declared.cmp.Ordering.{Ordering}
use Rattle.std.specs.Ordering.{is_lt}
use Rattle.std.specs.Cmp.{IsTotalOrder}
use Rattle.std.specs.Fn.{Called}
use Rattle.std.specs.List.Sorted.{IsSorted, IsSortedByClosure}
use Rattle.std.proofs.lemmas.Fn.{always_returns_same}
use Rattle.std.proofs.lemmas.List.Sorted.{ranks_by}
use denote.Ref.{Bor}
use denote.Param.Members.{Mut}

pub sorted_from_sort_by : {X F : Type 0} (R : X → X → Ordering) → IsTotalOrder R → {g : Mut F (Bor X × (Bor X × Unit {0})) Ordering} {f : F} (xs : List X)
    → IsSortedByClosure g f xs
    → ((a : Bor X × (Bor X × Unit {0})) (r : Ordering) (f' : F) → Called g f a r f' → (r ≡ R a.0.now a.1.0.now) × (f' ≡ f))
    → IsSorted R xs
sorted_from_sort_by {X} R o {g = g} {f = f} xs up h =
    up (λ x y. is_lt (R x y)) (ranks_by o (λ (x : X). x))
    (always_returns_same g (λ a r. is_lt r ≡ is_lt (R a.0.now a.1.0.now)) f (λ a r f' k. (ap is_lt (h a r f' k).0, (h a r f' k).1)))
