-- Reading the items of a list one after another.
use Rattle.std.proofs.Common.{◌≡◌, ℕ, ◌+◌, ◌<◌, ◌≤◌, List, [], ◌∷◌, ◌++◌, length, get_or, drop, Option, Some, None, refl, sym, ap, ◌∙◌, append_assoc, add-one, drop-cons}
use Rattle.std.proofs.lemmas.List.{append-nil, drop_all}
use Rattle.beam_values.specs.declared.value.Value.{Value}
use Rattle.value_forms.specs.declared.refusal.FormRefusal.{FormRefusal}
use Rattle.value_forms.specs.declared.refusal.FormRefusal.TheVariants as refusals
use Rattle.value_forms.specs.Answers.{Fails}
use Rattle.value_forms.specs.Parts.{◌>>=◌, all_of}

-- what was read before, and what is still read
abbrev pub with_front : {A : Type 0} → List A → Option (List A) → Option (List A)
with_front front read = read >>= λ xs. Some (front ++ xs)

regroup : {A : Type 0} (front : List A) (x : A) (read : Option (List A)) → with_front front (read >>= λ xs. Some (x ∷ xs)) ≡ with_front (front ++ x ∷ []) read
regroup front x (Some xs) = ap Some (sym (append_assoc front (x ∷ []) xs))
regroup front x None = refl

module _ {A : Type 0} (read : Value → Option A) (values : List Value) (i : ℕ) (v : Value) (within : i < length values) (is : v ≡ get_or values i v) where
  next_read : all_of read (drop i values) ≡ (read v >>= λ x. all_of read (drop (i + 1) values) >>= λ xs. Some (x ∷ xs))
  unfolding all_of
  next_read = rw (drop-cons values i v within, ← is, add-one) refl

  pub reads_on : (front : List A) (x : A) (total : Option (List A)) → read v ≡ Some x → with_front front (all_of read (drop i values)) ≡ total → with_front (front ++ x ∷ []) (all_of read (drop (i + 1) values)) ≡ total
  reads_on front x total e so_far =
      let one : with_front front (all_of read (drop i values)) ≡ with_front (front ++ x ∷ []) (all_of read (drop (i + 1) values)) = rw (next_read, e) (regroup front x (all_of read (drop (i + 1) values))) in
      sym one ∙ so_far

  pub reads_none : (e : FormRefusal) (front : List A) (total : Option (List A)) → Fails e (read v) → with_front front (all_of read (drop i values)) ≡ total → Fails e total
  reads_none refusals.NoMemory front total h so_far = tt
  reads_none refusals.Shape front total h so_far =
      let one : with_front front (all_of read (drop i values)) ≡ None = rw (next_read, h) refl in
      sym so_far ∙ one

pub reads_all : {A : Type 0} (read : Value → Option A) (values : List Value) (i : ℕ) (front : List A) (total : Option (List A)) → length values ≤ i → with_front front (all_of read (drop i values)) ≡ total → total ≡ Some front
unfolding all_of
reads_all read values i front total le so_far =
    let one : with_front front (all_of read (drop i values)) ≡ Some front = rw (drop_all i values le) (ap Some (append-nil front)) in
    sym so_far ∙ one
