-- Four lists side by side, cut in two.
use Rattle.std.proofs.Common.{◌≡◌, List, [], ◌∷◌, ◌++◌, length, sym, subst, arith}
use Rattle.bundle_work.specs.Pairs.{AreBoth, EachPairBecomes}

module _ {A B : Type 0} (P : A → A → B → B → Type 0) where
  pub each_append : (a a' b b' : List A) (s s' t t' : List B) → EachPairBecomes P a a' s s' → EachPairBecomes P b b' t t' → EachPairBecomes P (a ++ b) (a' ++ b') (s ++ t) (s' ++ t')
  each_append [] [] b b' [] [] t t' h k = k
  each_append (x ∷ a) (y ∷ a') b b' (z ∷ s) (w ∷ s') t t' h k = (h.0, each_append a a' b b' s s' t t' h.1 k)
  each_append [] [] b b' [] (w ∷ s') t t' h k = absurd h
  each_append [] [] b b' (z ∷ s) s' t t' h k = absurd h
  each_append [] (y ∷ a') b b' s s' t t' h k = absurd h
  each_append (x ∷ a) [] b b' s s' t t' h k = absurd h
  each_append (x ∷ a) (y ∷ a') b b' [] s' t t' h k = absurd h
  each_append (x ∷ a) (y ∷ a') b b' (z ∷ s) [] t t' h k = absurd h

  pub each_cut : (ks a a' b b' : List A) (ss s s' t t' : List B) → ks ≡ a ++ b → ss ≡ s ++ t → EachPairBecomes P a a' s s' → EachPairBecomes P b b' t t' → EachPairBecomes P ks (a' ++ b') ss (s' ++ t')
  each_cut ks a a' b b' ss s s' t t' e f h k = subst (λ (z : List A × List B). EachPairBecomes P z.0 (a' ++ b') z.1 (s' ++ t')) (λ i. (sym e i, sym f i)) (each_append a a' b b' s s' t t' h k)

  both_parts : (P : A → B → Type 0) (a b : List A) (s t : List B) → length a ≡ length s → AreBoth P (a ++ b) (s ++ t) → AreBoth P a s × AreBoth P b t
  both_parts P [] b [] t e h = (tt, h)
  both_parts P (x ∷ a) b (y ∷ s) t e h = let r = both_parts P a b s t (omega arith) h.1 in ((h.0, r.0), r.1)
  both_parts P [] b (y ∷ s) t e h = absurd (omega arith)
  both_parts P (x ∷ a) b [] t e h = absurd (omega arith)

module _ {A B : Type 0} (P : A → B → Type 0) where
  pub both_cut : (ks a b : List A) (ss s t : List B) → ks ≡ a ++ b → ss ≡ s ++ t → length a ≡ length s → AreBoth P ks ss → AreBoth P a s × AreBoth P b t
  both_cut ks a b ss s t e f l h = both_parts (λ _ _ _ _. Unit {0}) P a b s t l (subst (λ (z : List A × List B). AreBoth P z.0 z.1) (λ i. (e i, f i)) h)
