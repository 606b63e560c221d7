-- Two lists before and after, place by place.
use Rattle.std.specs.Prelude.{◌≡◌, List, [], ◌∷◌}
use denote.Ref.{MutBor}
use denote.Param.Members.{Shared}

-- both lists are of one length, and the values at each place have P
abbrev pub AreBoth : {A B : Type 0} → (A → B → Type 0) → List A → List B → Type 0
AreBoth P [] [] = Unit {0}
AreBoth P (a ∷ xs) (s ∷ ss) = P a s × AreBoth P xs ss
AreBoth P _ _ = ⊥

-- at each place the change of both has P, and all four lists are of one length
abbrev pub EachPairBecomes : {A B : Type 0} → (A → A → B → B → Type 0) → List A → List A → List B → List B → Type 0
EachPairBecomes P [] [] [] [] = Unit {0}
EachPairBecomes P (a ∷ xs) (b ∷ ys) (s ∷ ss) (t ∷ ts) = P a b s t × EachPairBecomes P xs ys ss ts
EachPairBecomes P _ _ _ _ = ⊥

module _ {J K T : Type 0} (g : Shared J (MutBor T × (MutBor K × Unit {0})) ((Unit {0}) × (MutBor T × (MutBor K × Unit {0})))) (job : J) where
  -- the job may be called with a `&mut` to each of the two
  abbrev pub AcceptsPair : K → T → Type 0
  AcceptsPair kit seat = (s : MutBor T) (k : MutBor K) → s.now ≡ seat → k.now ≡ kit → g.pre job (s, (k, tt))

  -- such a call may leave these there
  pub record ChangesPair (kit kit_after : K) (seat seat_after : T) : Type 0 where
    pub s : MutBor T
    pub k : MutBor K
    pub s_is : s.now ≡ seat
    pub k_is : k.now ≡ kit
    pub s_after : MutBor T
    pub k_after : MutBor K
    pub call : g.post job (s, (k, tt)) (tt, (s_after, (k_after, tt)))
    pub s_left : s_after.now ≡ seat_after
    pub k_left : k_after.now ≡ kit_after
