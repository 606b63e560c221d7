-- The forms of enums: a Pair of the place of the variant, counted from 0, and the Seq of its fields.
use Rattle.std.specs.Prelude.{ℕ, pos, ◌+◌, ◌==◌, if◌then◌else◌, ◌⊎◌, List, [], ◌∷◌, Option, Some, None}
use Rattle.std.proofs.Common.{inl, inr}
use Rattle.beam_values.specs.declared.value.Value.{Value}
use Rattle.beam_values.specs.declared.value.Value.TheVariants.{Int, Pair, Seq}
use Rattle.value_forms.specs.Forms.{Form}
use Rattle.value_forms.specs.Parts.{◌>>=◌, case_at, ends_at}
use Rattle.value_forms.specs.Structs.{Row}

abbrev pub case_value : ℕ → List Value → Value
case_value place fields = Pair (Int (pos place)) (Seq fields)

-- ---- variants without fields

-- the item at a place, where the first has the place `from`
abbrev pub named : {A : Type 0} → ℕ → List A → ℕ → Option A
named from [] n = None
named from (x ∷ xs) n = if n == from then Some x else named (from + 1) xs n

-- An enum of variants without fields, with all of them in their order, and the place of each: of `Call` and `Read` the second is `Pair(Int(1), Seq[])`, and
-- `Pair(Int(2), Seq[])` is none.
abbrev pub names_form : {A : Type 0} → List A → (A → ℕ) → Form A
names_form names place = record {
  to = λ x. case_value (place x) [];
  of = λ v. case_at v >>= λ c. ends_at c.1 0 >>= λ _. named 0 names c.0;
  Fits = λ _. Unit {0};
  depth = λ _. 0;
}

-- ---- variants with fields

-- forms of variants that follow one another; each function that needs it is told the place of the first of them
pub record Cases (A : Type 0) : Type 1 where
  pub place : ℕ → A → ℕ
  pub fields : A → List Value
  pub of : ℕ → ℕ → List Value → Option A
  pub Fits : A → Type 0
  pub depth : A → ℕ

-- the last variant
abbrev pub last_case : {A : Type 0} → Row A → Cases A
last_case row = record {
  place = λ from x. from;
  fields = row.to;
  of = λ from n items. if n == from then row.of 0 items else None;
  Fits = row.Fits;
  depth = row.depth;
}

abbrev pub or_place : {A B : Type 0} → (ℕ → B → ℕ) → ℕ → A ⊎ B → ℕ
or_place place from (inl x) = from
or_place place from (inr y) = place (from + 1) y

abbrev pub or_fields : {A B : Type 0} → (A → List Value) → (B → List Value) → A ⊎ B → List Value
or_fields f g (inl x) = f x
or_fields f g (inr y) = g y

abbrev pub OrFits : {A B : Type 0} → (A → Type 0) → (B → Type 0) → A ⊎ B → Type 0
OrFits P Q (inl x) = P x
OrFits P Q (inr y) = Q y

abbrev pub or_depth : {A B : Type 0} → (A → ℕ) → (B → ℕ) → A ⊎ B → ℕ
or_depth f g (inl x) = f x
or_depth f g (inr y) = g y

-- a variant, and then others
infixr 20 ◌or◌
abbrev pub ◌or◌ : {A B : Type 0} → Row A → Cases B → Cases (A ⊎ B)
row or others = record {
  place = or_place others.place;
  fields = or_fields row.to others.fields;
  of = λ from n items. if n == from then row.of 0 items >>= (λ x. Some (inl x)) else others.of (from + 1) n items >>= (λ y. Some (inr y));
  Fits = OrFits row.Fits others.Fits;
  depth = or_depth row.depth others.depth;
}

-- An enum with these variants: of a variant `Fixed { size }` at the place 1, one with the size 7 is `Pair(Int(1), Seq[Int(7)])`.
abbrev pub enum_form : {S A : Type 0} → Cases A → (S → A) → (A → S) → Form S
enum_form cases parts whole = record {
  to = λ s. case_value (cases.place 0 (parts s)) (cases.fields (parts s));
  of = λ v. case_at v >>= λ c. cases.of 0 c.0 c.1 >>= λ x. Some (whole x);
  Fits = λ s. cases.Fits (parts s);
  depth = λ s. cases.depth (parts s);
}
