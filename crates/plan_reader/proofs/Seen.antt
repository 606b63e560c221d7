-- Tests of a list that is seen by a function, and a name that is added to names.
use Rattle.std.proofs.Common.{◌≡◌, ℕ, ◌+◌, Bool, false, not, cond, List, [], ◌∷◌, ◌++◌, map, refl, ap, Bor, bytes_eq}
use Rattle.std.specs.List.{list_any, position, prefix_len}
use Rattle.std.proofs.lemmas.List.{map-append, length-map}
use Rattle.indexmap.specs.IndexSet.{insert_key}

pub list_any_seen : {X Y : Type 0} (p : Y → Bool) (f : X → Y) (xs : List X) → list_any p (map f xs) ≡ list_any (λ x. p (f x)) xs
list_any_seen p f [] = refl
list_any_seen p f (x ∷ xs) = rw (list_any_seen p f xs) refl

prefix_len_seen : {X Y : Type 0} (p : Y → Bool) (f : X → Y) (xs : List X) → prefix_len p (map f xs) ≡ prefix_len (λ x. p (f x)) xs
prefix_len_seen p f [] = refl
prefix_len_seen p f (x ∷ xs) = ap (λ n. cond (p (f x)) (1 + n) 0) (prefix_len_seen p f xs)

pub position_seen : {X Y : Type 0} (p : Y → Bool) (f : X → Y) (xs : List X) → position p (map f xs) ≡ position (λ x. p (f x)) xs
position_seen p f xs =
    rw (prefix_len_seen (λ y. not (p y)) f xs, length-map xs f) refl

-- a new name is put after the others
pub added : (keys : List (Bor (List ℕ))) (name : Bor (List ℕ)) → list_any (bytes_eq name.now) (map (λ key. key.now) keys) ≡ false
    → map (λ key. key.now) (insert_key (λ x y. bytes_eq x.now y.now) keys name) ≡ map (λ key. key.now) keys ++ name.now ∷ []
added keys name new = rw (← list_any_seen (bytes_eq name.now) (λ (key : Bor (List ℕ)). key.now) keys, new) (map-append _ _ _)
