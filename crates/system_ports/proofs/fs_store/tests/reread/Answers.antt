use Rattle.std.proofs.Common.{◌≡◌, ℕ, true, false, List, [], ◌∷◌, map, IsSome, refl}
use Rattle.system_ports.specs.Lengths.{untold_opening}
use Rattle.system_ports.proofs.fs_store.tests.reread.Goals as goal

first_opened : {X : Type 0} (len_of : X → ℕ) (places : List X) → (places ≡ [] → ⊥) → IsSome (untold_opening (map len_of places) 0)
first_opened len_of [] full = absurd (full refl)
first_opened len_of (place ∷ places) full = refl

pub read_at-requires : goal.read_at-requires
read_at-requires g c =
    let full : c.store.inside.places ≡ [] → ⊥ = λ none. let no : false ≡ true = c.if-is_empty.ensures.1 none in cc in
    rw (← c.store.view_is) (first_opened (λ place. place.len) c.store.inside.places full)
