-- Steps of loops over a list, where an invariant speaks of what is left.
use Rattle.std.proofs.Common.{◌≡◌, ℕ, ◌+◌, ◌<◌, Bool, true, false, cond, List, [], ◌∷◌, ◌++◌, length, get_or, take, drop, map, sym, ap, ◌∙◌, arith, drop-cons, append_assoc, append-nil}
use Rattle.std.specs.List.{filter, fold}
use Rattle.std.proofs.lemmas.Grind.{common_steps}

pub split_at : {X : Type 0} (xs : List X) (i : ℕ) (x : X) → i < length xs → x ≡ get_or xs i x → drop i xs ≡ x ∷ drop (i + 1) xs
split_at xs i x within is = grind (arith, common_steps, drop-cons xs i x)

pub fold_step : {A B : Type 0} (f : B → A → B) (b after : B) (xs : List A) (i : ℕ) (x : A) → i < length xs → x ≡ get_or xs i x → after ≡ f b x
    → fold f after (drop (i + 1) xs) ≡ fold f b (drop i xs)
fold_step f b after xs i x within is step = ap (λ a. fold f a (drop (i + 1) xs)) step ∙ sym (ap (fold f b) (split_at xs i x within is))

pub filter_step : {X Y : Type 0} (p : X → Bool) (f : X → Y) (old new : List Y) (xs : List X) (i : ℕ) (x : X) → i < length xs → x ≡ get_or xs i x
    → new ≡ old ++ map f (cond (p x) (x ∷ []) []) → new ++ map f (filter p (drop (i + 1) xs)) ≡ old ++ map f (filter p (drop i xs))
filter_step {X} {Y} p f old new xs i x within is step =
    ap (λ l. l ++ map f (filter p (drop (i + 1) xs))) step
    ∙ by_test (p x)
    ∙ sym (ap (λ l. old ++ map f (filter p l)) (split_at xs i x within is))
  where
    by_test : (b : Bool) → (old ++ map f (cond b (x ∷ []) [])) ++ map f (filter p (drop (i + 1) xs)) ≡ old ++ map f (cond b (x ∷ filter p (drop (i + 1) xs)) (filter p (drop (i + 1) xs)))
    by_test true = append_assoc old (f x ∷ []) (map f (filter p (drop (i + 1) xs)))
    by_test false = ap (λ l. l ++ map f (filter p (drop (i + 1) xs))) (append-nil old)

pub kept_longer : {X : Type 0} (first mid last : List X) → take (length first) mid ≡ first → take (length mid) last ≡ mid → take (length first) last ≡ first
kept_longer first mid last h k = grind (arith, common_steps)
