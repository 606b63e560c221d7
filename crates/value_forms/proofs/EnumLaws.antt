-- What every form of an enum meets: from its variants, and from the variant of each thing making that thing.
use Rattle.std.proofs.Common.{◌≡◌, ℕ, pos, ◌+◌, ◌≤◌, ◌<◌, max, Bool, true, false, ◌⊎◌, inl, inr, List, [], ◌∷◌, map, Option, Some, None, cond, refl, sym, ap, ap₂, subst, ◌∙◌, ◌^◌, arith, eqb, eq-eqb, ne_eqb, eqb-true}
use Rattle.std.specs.List.{AllByRecursion}
use Rattle.beam_values.specs.declared.value.Value.{Value}
use Rattle.beam_values.specs.declared.value.Value.TheVariants.{Int, Seq}
use Rattle.beam_values.specs.Storable.{IsStorable}
use Rattle.beam_values.proofs.Storable.{Int-fits, Pair-fits, Seq-fits, fits-Pair, fits-Seq}
use Rattle.beam_coders.specs.Readable.{nesting, greatest_of}
use Rattle.beam_coders.proofs.NestingLaws.{nesting-Int, nesting-Pair, nesting-Seq}
use Rattle.value_forms.specs.Enums.{case_value, named, names_form, Cases, last_case, OrFits, ◌or◌, enum_form}
use Rattle.value_forms.specs.Parts.{◌>>=◌, case_at, ends_at}
use Rattle.value_forms.specs.Structs.{Row}
use Rattle.value_forms.proofs.PartLaws.{bind_some, case_at-Pair, case_at-is}
use Rattle.value_forms.proofs.FormLaws.{IsForm, some_is}
use Rattle.value_forms.proofs.StructLaws.{IsRow, row_alone, row_whole, no_more_is_row}

case_words : (place : ℕ) (fields : List Value) → place < 2 ^ 63 → AllByRecursion IsStorable fields → IsStorable (case_value place fields)
case_words place fields small h = Pair-fits (Int (pos place)) (Seq fields) (Int-fits (pos place) record { sfits = omega arith }) (Seq-fits fields h)

-- the fields of a variant that can be stored
fields_fit : (v : Value) (c : ℕ × List Value) → IsStorable v → case_at v ≡ Some c → AllByRecursion IsStorable c.1
fields_fit v c s e = fits-Seq c.1 (fits-Pair (Int (pos c.0)) (Seq c.1) (subst IsStorable (sym (case_at-is v c e)) s)).1

case_shallow : (place : ℕ) (fields : List Value) (most : ℕ) → greatest_of (map nesting fields) ≤ most → nesting (case_value place fields) ≤ 2 + most
case_shallow place fields most h = rw (nesting-Pair, nesting-Int, nesting-Seq) (omega arith)

-- ---- variants without fields

-- the places of names that follow one another
abbrev pub places : {A : Type 0} → ℕ → List A → List ℕ
places from [] = []
places from (x ∷ xs) = from ∷ places (from + 1) xs

named_step : {A : Type 0} (place : A → ℕ) (from n : ℕ) (w x : A) (others : Option A) (b : Bool) → eqb n from ≡ b → place w ≡ from → (others ≡ Some x → place x ≡ n) → cond b (Some w) others ≡ Some x → place x ≡ n
named_step place from n w x others true t h on e = ap place (sym (some_is w x e)) ∙ h ∙ sym (eqb-true n from t)
named_step place from n w x others false t h on e = on e

named_at : {A : Type 0} (place : A → ℕ) (from : ℕ) (names : List A) (n : ℕ) (x : A) → map place names ≡ places from names → named from names n ≡ Some x → place x ≡ n
named_at place from [] n x h e = absurd cc
named_at place from (w ∷ names) n x h e =
    let first : place w ≡ from = cc in
    let others : map place names ≡ places (from + 1) names = cc in
    named_step place from n w x (named (from + 1) names n) (eqb n from) refl first (named_at place (from + 1) names n x others) e

module _ {A : Type 0} (names : List A) (place : A → ℕ) (ordered : map place names ≡ places 0 names) (found : (x : A) → named 0 names (place x) ≡ Some x) (small : (x : A) → place x < 2 ^ 63) where
  names_exact : (v : Value) (x : A) → (names_form names place).of v ≡ Some x → (names_form names place).to x ≡ v
  names_exact v x e =
      let c = bind_some (case_at v) _ x e in
      let none = bind_some (ends_at c.0.1 0) _ x c.2 in
      ap₂ case_value (named_at place 0 names c.0.0 x ordered none.2) (row_whole no_more_is_row c.0.1 none.0 none.1) ∙ case_at-is v c.0 c.1

  pub names_is_form : IsForm (names_form names place) (λ _. Unit {0}) 2
  names_is_form = record {
    again = λ x _. rw (case_at-Pair (place x) [], row_alone no_more_is_row tt tt) (found x);
    exact = names_exact;
    shallow = λ x. case_shallow (place x) [] 0 (omega arith);
    words = λ x _. case_words (place x) [] (small x) tt;
    fits = λ v x s e. tt;
  }

-- ---- variants with fields

-- of `count` variants, as `IsForm` of one form
pub record IsCases {A : Type 0} (cases : Cases A) (P : A → Type 0) (deep count : ℕ) : Type 0 where
  pub again : (from : ℕ) (x : A) → P x → cases.of from (cases.place from x) (cases.fields x) ≡ Some x
  pub exact : (from n : ℕ) (vs : List Value) (x : A) → cases.of from n vs ≡ Some x → (cases.place from x ≡ n) × (cases.fields x ≡ vs)
  pub first : (from : ℕ) (x : A) → from ≤ cases.place from x
  pub last : (from : ℕ) (x : A) → cases.place from x < from + count
  pub shallow : (x : A) → greatest_of (map nesting (cases.fields x)) ≤ deep + cases.depth x
  pub words : (x : A) → P x → AllByRecursion IsStorable (cases.fields x)
  pub fits : (from n : ℕ) (vs : List Value) (x : A) → AllByRecursion IsStorable vs → cases.of from n vs ≡ Some x → P x

chosen : {A : Type 0} (n from : ℕ) (x y : Option A) (z : A) (b : Bool) → eqb n from ≡ b → cond b x y ≡ Some z → ((from ≡ n) × (x ≡ Some z)) ⊎ (y ≡ Some z)
chosen n from x y z true t e = inl (sym (eqb-true n from t), e)
chosen n from x y z false t e = inr e

module _ {A : Type 0} {row : Row A} {P : A → Type 0} {deep : ℕ} (is : IsRow row P deep) where
  last_exact : (from n : ℕ) (vs : List Value) (x : A) → (last_case row).of from n vs ≡ Some x → (from ≡ n) × (row.to x ≡ vs)
  last_exact from n vs x e =
      elim (chosen n from (row.of 0 vs) None x (eqb n from) refl e) [
        | inl h ↦ (h.0, row_whole is vs x h.1)
        | inr h ↦ absurd cc
      ]

  last_fits : (from n : ℕ) (vs : List Value) (x : A) → AllByRecursion IsStorable vs → (last_case row).of from n vs ≡ Some x → P x
  last_fits from n vs x s e =
      elim (chosen n from (row.of 0 vs) None x (eqb n from) refl e) [
        | inl h ↦ is.fits 0 vs x s h.1
        | inr h ↦ absurd cc
      ]

  pub last_is_cases : IsCases (last_case row) P deep 1
  last_is_cases = record {
    again = λ from x h. rw (eq-eqb from from refl) (row_alone is x h);
    exact = last_exact;
    first = λ from x. omega arith;
    last = λ from x. omega arith;
    shallow = is.shallow;
    words = is.words;
    fits = last_fits;
  }

  module _ {B : Type 0} {others : Cases B} {Q : B → Type 0} {more count : ℕ} (rest : IsCases others Q more count) where
    or_again : (from : ℕ) (x : A ⊎ B) → OrFits P Q x → (row or others).of from ((row or others).place from x) ((row or others).fields x) ≡ Some x
    or_again from (inl x) h = rw (eq-eqb from from refl, row_alone is x h) refl
    or_again from (inr y) h =
        let above = rest.first (from + 1) y in
        rw (ne_eqb (others.place (from + 1) y) from (λ e. absurd (omega arith)), rest.again (from + 1) y h) refl

    abbrev OrIs : ℕ → ℕ → List Value → A ⊎ B → Type 0
    OrIs from n vs x = ((row or others).place from x ≡ n) × ((row or others).fields x ≡ vs)

    or_here : (from n : ℕ) (vs : List Value) (x : A ⊎ B) → from ≡ n → (row.of 0 vs >>= λ y. Some (inl y)) ≡ Some x → OrIs from n vs x
    or_here from n vs x h f =
        let read = bind_some (row.of 0 vs) _ x f in
        subst (OrIs from n vs) (some_is (inl read.0) x read.2) (h, row_whole is vs read.0 read.1)

    or_there : (from n : ℕ) (vs : List Value) (x : A ⊎ B) → (others.of (from + 1) n vs >>= λ y. Some (inr y)) ≡ Some x → OrIs from n vs x
    or_there from n vs x f =
        let read = bind_some (others.of (from + 1) n vs) _ x f in
        subst (OrIs from n vs) (some_is (inr read.0) x read.2) (rest.exact (from + 1) n vs read.0 read.1)

    or_exact : (from n : ℕ) (vs : List Value) (x : A ⊎ B) → (row or others).of from n vs ≡ Some x → OrIs from n vs x
    or_exact from n vs x e =
        elim (chosen n from (row.of 0 vs >>= λ y. Some (inl y)) (others.of (from + 1) n vs >>= λ y. Some (inr y)) x (eqb n from) refl e) [
          | inl h ↦ or_here from n vs x h.0 h.1
          | inr h ↦ or_there from n vs x h
        ]

    or_fits : (from n : ℕ) (vs : List Value) (x : A ⊎ B) → AllByRecursion IsStorable vs → (row or others).of from n vs ≡ Some x → OrFits P Q x
    or_fits from n vs x s e =
        elim (chosen n from (row.of 0 vs >>= λ y. Some (inl y)) (others.of (from + 1) n vs >>= λ y. Some (inr y)) x (eqb n from) refl e) [
          | inl h ↦
              let read = bind_some (row.of 0 vs) _ x h.1 in
              subst (OrFits P Q) (some_is (inl read.0) x read.2) (is.fits 0 vs read.0 s read.1)
          | inr h ↦
              let read = bind_some (others.of (from + 1) n vs) _ x h in
              subst (OrFits P Q) (some_is (inr read.0) x read.2) (rest.fits (from + 1) n vs read.0 s read.1)
        ]

    or_first : (from : ℕ) (x : A ⊎ B) → from ≤ (row or others).place from x
    or_first from (inl x) = omega arith
    or_first from (inr y) = omega (arith, rest.first (from + 1) y)

    or_last : (from : ℕ) (x : A ⊎ B) → (row or others).place from x < from + (1 + count)
    or_last from (inl x) = omega arith
    or_last from (inr y) = omega (arith, rest.last (from + 1) y)

    or_shallow : (x : A ⊎ B) → greatest_of (map nesting ((row or others).fields x)) ≤ max deep more + (row or others).depth x
    or_shallow (inl x) = omega (arith, is.shallow x)
    or_shallow (inr y) = omega (arith, rest.shallow y)

    or_words : (x : A ⊎ B) → OrFits P Q x → AllByRecursion IsStorable ((row or others).fields x)
    or_words (inl x) h = is.words x h
    or_words (inr y) h = rest.words y h

    pub or_is_cases : IsCases (row or others) (OrFits P Q) (max deep more) (1 + count)
    or_is_cases = record { again = or_again; exact = or_exact; first = or_first; last = or_last; shallow = or_shallow; words = or_words; fits = or_fits }

module _ {S A : Type 0} {cases : Cases A} {P : A → Type 0} {deep count : ℕ} (parts : S → A) (whole : A → S) (is : IsCases cases P deep count)
    (few : count ≤ 2 ^ 63) (back : (s : S) → whole (parts s) ≡ s) (forth : (x : A) → parts (whole x) ≡ x) where
  enum_again : (s : S) → P (parts s) → (enum_form cases parts whole).of ((enum_form cases parts whole).to s) ≡ Some s
  enum_again s h = rw (case_at-Pair (cases.place 0 (parts s)) (cases.fields (parts s)), is.again 0 (parts s) h) (ap Some (back s))

  enum_exact : (v : Value) (s : S) → (enum_form cases parts whole).of v ≡ Some s → (enum_form cases parts whole).to s ≡ v
  enum_exact v s e =
      let c = bind_some (case_at v) _ s e in
      let read = bind_some (cases.of 0 c.0.0 c.0.1) _ s c.2 in
      let same : parts s ≡ read.0 = ap parts (sym (some_is (whole read.0) s read.2)) ∙ forth read.0 in
      let right = is.exact 0 c.0.0 c.0.1 read.0 read.1 in
      ap (λ (x : A). case_value (cases.place 0 x) (cases.fields x)) same ∙ ap₂ case_value right.0 right.1 ∙ case_at-is v c.0 c.1

  enum_fits : (v : Value) (s : S) → IsStorable v → (enum_form cases parts whole).of v ≡ Some s → P (parts s)
  enum_fits v s stored e =
      let c = bind_some (case_at v) _ s e in
      let read = bind_some (cases.of 0 c.0.0 c.0.1) _ s c.2 in
      let same : read.0 ≡ parts s = sym (forth read.0) ∙ ap parts (some_is (whole read.0) s read.2) in
      subst P same (is.fits 0 c.0.0 c.0.1 read.0 (fields_fit v c.0 stored c.1) read.1)

  pub enum_is_form : IsForm (enum_form cases parts whole) (λ s. P (parts s)) (2 + deep)
  enum_is_form = record {
    again = enum_again;
    exact = enum_exact;
    shallow = λ s. let within = case_shallow (cases.place 0 (parts s)) (cases.fields (parts s)) (deep + cases.depth (parts s)) (is.shallow (parts s)) in omega arith;
    words = λ s h. case_words (cases.place 0 (parts s)) (cases.fields (parts s)) (omega (arith, is.last 0 (parts s))) (is.words (parts s) h);
    fits = enum_fits;
  }
