-- Reading items one after the other, as a loop does.
use Rattle.std.proofs.Common.{◌≡◌, ℕ, suc, ◌-◌, ◌+◌, ◌≤◌, ◌<◌, List, [], ◌∷◌, ◌++◌, Ok, Err, refl, sym, ap, ◌∙◌, append_assoc, arith}
use Rattle.std.proofs.lemmas.List.{append-nil}
use Rattle.beam_values.specs.declared.value.Value.{Value}
use Rattle.beam_coders.specs.declared.refusal.ReadRefusal.{ReadRefusal}
use Rattle.beam_coders.specs.declared.refusal.ReadRefusal.TheVariants as refusals
use Rattle.beam_coders.specs.Answers.{Fails}
use Rattle.beam_coders.specs.Reading.{◌>>=◌, Reading, items_at}

-- what was read before, and what is still read
abbrev pub with_front : List Value → Reading (List Value) → Reading (List Value)
with_front front read = read >>= λ x. Ok (front ++ x.0, x.1)

regroup : (front : List Value) (item : Value) (read : Reading (List Value)) → with_front front (read >>= λ x. Ok (item ∷ x.0, x.1)) ≡ with_front (front ++ item ∷ []) read
regroup front item (Ok x) = ap (λ (items : List Value). Ok (items, x.1)) (simp append_assoc)
regroup front item (Err e) = refl

module _ (value : List ℕ → Reading Value) where
  pub goes_on : (front : List Value) (count i : ℕ) (bytes : List ℕ) (item : Value) (after : List ℕ) (total : Reading (List Value)) → i < count → value bytes ≡ Ok (item, after)
      → with_front front (items_at value (count - i) bytes) ≡ total → with_front (front ++ item ∷ []) (items_at value (count - (i + 1)) after) ≡ total
  unfolding items_at
  goes_on front count i bytes item after total lt h so_far =
      let k : count - i ≡ suc (count - (i + 1)) = omega arith in
      let one : with_front front (items_at value (count - i) bytes) ≡ with_front (front ++ item ∷ []) (items_at value (count - (i + 1)) after) = rw (k, h) (regroup front item (items_at value (count - (i + 1)) after)) in
      sym one ∙ so_far

  pub ends : (e : ReadRefusal) (front : List Value) (count i : ℕ) (bytes : List ℕ) (total : Reading (List Value)) → i < count → Fails e (value bytes)
      → with_front front (items_at value (count - i) bytes) ≡ total → Fails e total
  unfolding items_at
  ends refusals.NoMemory front count i bytes total lt h so_far = tt
  ends (refusals.Bad refusal) front count i bytes total lt h so_far =
      let k : count - i ≡ suc (count - (i + 1)) = omega arith in
      let one : with_front front (items_at value (count - i) bytes) ≡ Err refusal = rw (k, h) refl in
      sym so_far ∙ one

  pub is_done : (front : List Value) (count i : ℕ) (bytes : List ℕ) (total : Reading (List Value)) → count ≤ i → with_front front (items_at value (count - i) bytes) ≡ total → total ≡ Ok (front, bytes)
  unfolding items_at
  is_done front count i bytes total le so_far =
      let k : count - i ≡ 0 = omega arith in
      let one : with_front front (items_at value (count - i) bytes) ≡ Ok (front, bytes) = rw k (ap (λ (items : List Value). Ok (items, bytes)) (append-nil front)) in
      sym so_far ∙ one
