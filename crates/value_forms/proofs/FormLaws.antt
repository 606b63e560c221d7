-- What every form meets, and how it follows from what a form is made of.
use Rattle.std.proofs.Common.{◌≡◌, ℕ, ◌+◌, ◌≤◌, Bool, true, List, [], ◌∷◌, map, Option, Some, None, refl, sym, ap, ap₂, subst, ◌∙◌, arith}
use Rattle.std.specs.List.{AllByRecursion}
use Rattle.std.proofs.lemmas.Option.{cond_some}
use Rattle.beam_values.specs.declared.value.Value.{Value}
use Rattle.beam_values.specs.declared.value.Value.TheVariants.{Seq}
use Rattle.beam_values.specs.Storable.{IsStorable}
use Rattle.beam_values.proofs.Storable.{Blob-fits, Seq-fits, fits-Seq}
use Rattle.beam_coders.specs.Readable.{nesting, greatest_of}
use Rattle.beam_coders.proofs.NestingLaws.{nesting-Blob, nesting-Seq}
use Rattle.value_forms.specs.Forms.{Form, value_form, bytes_form, list_form, option_items, option_of, OptionFits, option_depth, option_form, passing, tested_form}
use Rattle.value_forms.specs.Parts.{items_at, all_of}
use Rattle.value_forms.proofs.PartLaws.{bind_some, blob_at-Blob, blob_at-is, items_at-Seq, items_at-is}

-- of a form, where `P` says which things can be stored, and `deep` how deep they are nested beside the values that they hold
pub record IsForm {A : Type 0} (form : Form A) (P : A → Type 0) (deep : ℕ) : Type 0 where
  -- what is written is read as the same
  pub again : (x : A) → P x → form.of (form.to x) ≡ Some x
  -- what is read would be written as this value and no other
  pub exact : (v : Value) (x : A) → form.of v ≡ Some x → form.to x ≡ v
  pub shallow : (x : A) → nesting (form.to x) ≤ deep + form.depth x
  pub words : (x : A) → P x → IsStorable (form.to x)
  -- what is read can be stored
  pub fits : (v : Value) (x : A) → IsStorable v → form.of v ≡ Some x → P x

-- with the same things, said otherwise, and a greater bound
pub with_same : {A : Type 0} {form : Form A} {P Q : A → Type 0} {deep : ℕ} (more : ℕ) → IsForm form P deep → ((x : A) → Q x → P x) → ((x : A) → P x → Q x) → deep ≤ more → IsForm form Q more
with_same more f h k le = record {
  again = λ x q. f.again x (h x q);
  exact = f.exact;
  shallow = λ x. omega (arith, f.shallow x);
  words = λ x q. f.words x (h x q);
  fits = λ v x s e. k x (f.fits v x s e);
}

pub some_is : {A : Type 0} (x y : A) → Some x ≡ Some y → x ≡ y
some_is x y e = cc

-- ---- values and bytes

pub value_is_form : IsForm value_form IsStorable 0
value_is_form = record {
  again = λ v _. refl;
  exact = λ v x e. sym (some_is v x e);
  shallow = λ v. omega arith;
  words = λ v h. h;
  fits = λ v x s e. subst IsStorable (some_is v x e) s;
}

pub bytes_is_form : IsForm bytes_form (λ _. Unit {0}) 1
bytes_is_form = record {
  again = λ bytes _. blob_at-Blob bytes;
  exact = blob_at-is;
  shallow = λ bytes. rw nesting-Blob (omega arith);
  words = λ bytes _. Blob-fits bytes;
  fits = λ v bytes s e. tt;
}

-- what passed a test
pub passed : {A : Type 0} (test : A → Bool) (x y : A) → passing test x ≡ Some y → (x ≡ y) × (test y ≡ true)
passed {A} test x y e = let p = cond_some (test x) x y e in (p.1, subst (λ (z : A). test z ≡ true) p.1 p.0)

-- ---- what holds others

-- the items of a value that can be stored
pub items_fit : (v : Value) (items : List Value) → IsStorable v → items_at v ≡ Some items → AllByRecursion IsStorable items
items_fit v items s e = fits-Seq items (subst IsStorable (sym (items_at-is v items e)) s)

module _ {A : Type 0} {form : Form A} {P : A → Type 0} {deep : ℕ} (is : IsForm form P deep) where
  all_again : (xs : List A) → AllByRecursion P xs → all_of form.of (map form.to xs) ≡ Some xs
  unfolding all_of
  all_again [] h = refl
  all_again (x ∷ xs) h = rw (is.again x h.0, all_again xs h.1) refl

  all_exact : (vs : List Value) (xs : List A) → all_of form.of vs ≡ Some xs → map form.to xs ≡ vs
  unfolding all_of
  all_exact [] xs e = ap (map form.to) (sym (some_is [] xs e))
  all_exact (v ∷ vs) xs e =
      let first = bind_some (form.of v) _ xs e in
      let others = bind_some (all_of form.of vs) _ xs first.2 in
      ap (map form.to) (sym (some_is (first.0 ∷ others.0) xs others.2)) ∙ ap₂ (λ (w : Value) (ws : List Value). w ∷ ws) (is.exact v first.0 first.1) (all_exact vs others.0 others.1)

  all_shallow : (xs : List A) → greatest_of (map nesting (map form.to xs)) ≤ deep + greatest_of (map form.depth xs)
  all_shallow [] = omega arith
  all_shallow (x ∷ xs) = omega (arith, is.shallow x, all_shallow xs)

  all_words : (xs : List A) → AllByRecursion P xs → AllByRecursion IsStorable (map form.to xs)
  all_words [] h = tt
  all_words (x ∷ xs) h = (is.words x h.0, all_words xs h.1)

  all_fit : (vs : List Value) (xs : List A) → AllByRecursion IsStorable vs → all_of form.of vs ≡ Some xs → AllByRecursion P xs
  unfolding all_of
  all_fit [] xs s e = subst (AllByRecursion P) (some_is [] xs e) tt
  all_fit (v ∷ vs) xs s e =
      let first = bind_some (form.of v) _ xs e in
      let others = bind_some (all_of form.of vs) _ xs first.2 in
      subst (AllByRecursion P) (some_is (first.0 ∷ others.0) xs others.2) (is.fits v first.0 s.0 first.1, all_fit vs others.0 s.1 others.1)

  pub list_is_form : IsForm (list_form form) (AllByRecursion P) (1 + deep)
  list_is_form = record {
    again = λ xs h. rw (items_at-Seq (map form.to xs)) (all_again xs h);
    exact = λ v xs e. let items = bind_some (items_at v) (all_of form.of) xs e in ap Seq (all_exact items.0 xs items.2) ∙ items_at-is v items.0 items.1;
    shallow = λ xs. rw nesting-Seq (omega (arith, all_shallow xs));
    words = λ xs h. Seq-fits (map form.to xs) (all_words xs h);
    fits = λ v xs s e. let items = bind_some (items_at v) (all_of form.of) xs e in all_fit items.0 xs (items_fit v items.0 s items.1) items.2;
  }

  option_again : (x : Option A) → OptionFits P x → option_of form.of (option_items form.to x) ≡ Some x
  option_again None h = refl
  option_again (Some x) h = rw (is.again x h) refl

  option_exact : (vs : List Value) (x : Option A) → option_of form.of vs ≡ Some x → option_items form.to x ≡ vs
  option_exact [] x e = ap (option_items form.to) (sym (some_is None x e))
  option_exact (v ∷ []) x e =
      let inner = bind_some (form.of v) _ x e in
      ap (option_items form.to) (sym (some_is (Some inner.0) x inner.2)) ∙ ap (λ (w : Value). w ∷ []) (is.exact v inner.0 inner.1)
  option_exact (v ∷ w ∷ vs) x e = absurd cc

  option_shallow : (x : Option A) → greatest_of (map nesting (option_items form.to x)) ≤ deep + option_depth form.depth x
  option_shallow None = omega arith
  option_shallow (Some x) = omega (arith, is.shallow x)

  option_words : (x : Option A) → OptionFits P x → AllByRecursion IsStorable (option_items form.to x)
  option_words None h = tt
  option_words (Some x) h = (is.words x h, tt)

  option_fits : (vs : List Value) (x : Option A) → AllByRecursion IsStorable vs → option_of form.of vs ≡ Some x → OptionFits P x
  option_fits [] x s e = subst (OptionFits P) (some_is None x e) tt
  option_fits (v ∷ []) x s e =
      let inner = bind_some (form.of v) _ x e in
      subst (OptionFits P) (some_is (Some inner.0) x inner.2) (is.fits v inner.0 s.0 inner.1)
  option_fits (v ∷ w ∷ vs) x s e = absurd cc

  pub option_is_form : IsForm (option_form form) (OptionFits P) (1 + deep)
  option_is_form = record {
    again = λ x h. rw (items_at-Seq (option_items form.to x)) (option_again x h);
    exact = λ v x e. let items = bind_some (items_at v) (option_of form.of) x e in ap Seq (option_exact items.0 x items.2) ∙ items_at-is v items.0 items.1;
    shallow = λ x. rw nesting-Seq (omega (arith, option_shallow x));
    words = λ x h. Seq-fits (option_items form.to x) (option_words x h);
    fits = λ v x s e. let items = bind_some (items_at v) (option_of form.of) x e in option_fits items.0 x (items_fit v items.0 s items.1) items.2;
  }

  -- ---- what has bounds of its own

  pub tested_is_form : (test : A → Bool) (Holds Q : A → Type 0) → ((x : A) → Q x → test x ≡ true) → ((x : A) → test x ≡ true → Q x) → IsForm (tested_form test Holds form) (λ x. P x × Q x) deep
  tested_is_form test Holds Q passes meant = record {
    again = λ x h. rw (is.again x h.0, passes x h.1) refl;
    exact = λ v x e. let read = bind_some (form.of v) (passing test) x e in is.exact v x (read.1 ∙ ap Some (passed test read.0 x read.2).0);
    shallow = is.shallow;
    words = λ x h. is.words x h.0;
    fits = λ v x s e.
        let read = bind_some (form.of v) (passing test) x e in
        let p = passed test read.0 x read.2 in
        (is.fits v x s (read.1 ∙ ap Some p.0), meant x p.1);
  }
