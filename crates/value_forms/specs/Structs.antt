-- The forms of structs: the Seq of the fields, in the order in which the struct declares them.
use Rattle.std.specs.Prelude.{ℕ, ◌+◌, max, List, [], ◌∷◌, Option, Some}
use Rattle.beam_values.specs.declared.value.Value.{Value}
use Rattle.beam_values.specs.declared.value.Value.TheVariants.{Seq}
use Rattle.value_forms.specs.Forms.{Form}
use Rattle.value_forms.specs.Parts.{◌>>=◌, items_at, field_at, ends_at}

-- a form of fields that follow one another, which is told the place of the first of them to read them
pub record Row (A : Type 0) : Type 1 where
  pub to : A → List Value
  pub of : ℕ → List Value → Option A
  pub Fits : A → Type 0
  pub depth : A → ℕ

-- no field more
abbrev pub no_more : Row (Unit {0})
no_more = record { to = λ _. []; of = λ from items. ends_at items from; Fits = λ _. Unit {0}; depth = λ _. 0 }

-- a field, and then others
infixr 30 ◌&◌
abbrev pub ◌&◌ : {A B : Type 0} → Form A → Row B → Row (A × B)
form & row = record {
  to = λ x. form.to x.0 ∷ row.to x.1;
  of = λ from items. field_at form.of items from >>= λ first. row.of (from + 1) items >>= λ others. Some (first, others);
  Fits = λ x. form.Fits x.0 × row.Fits x.1;
  depth = λ x. max (form.depth x.0) (row.depth x.1);
}

-- A struct with these fields. The window from 3 to 5 is `Seq[Int(3), Int(5)]`; `Seq[Int(3)]` and `Seq[Int(3), Int(5), Int(7)]` are none.
abbrev pub struct_form : {S A : Type 0} → Row A → (S → A) → (A → S) → Form S
struct_form row fields whole = record {
  to = λ s. Seq (row.to (fields s));
  of = λ v. items_at v >>= row.of 0 >>= λ x. Some (whole x);
  Fits = λ s. row.Fits (fields s);
  depth = λ s. row.depth (fields s);
}
