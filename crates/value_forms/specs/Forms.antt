-- Forms: how data is written as a value, and which data a value is read as.
use Rattle.std.specs.Prelude.{ℕ, Bool, List, [], ◌∷◌, map, Option, Some, None, if◌then◌else◌}
use Rattle.std.specs.List.{AllByRecursion}
use Rattle.beam_values.specs.declared.value.Value.{Value}
use Rattle.beam_values.specs.declared.value.Value.TheVariants.{Blob, Seq}
use Rattle.beam_values.specs.Storable.{IsStorable}
use Rattle.beam_coders.specs.Readable.{nesting, greatest_of}
use Rattle.value_forms.specs.Parts.{◌>>=◌, blob_at, items_at, all_of}

-- What is written as `to` says is read by `of` as the same again; any other value is read as nothing.
pub record Form (A : Type 0) : Type 1 where
  -- the value as which it is written
  pub to : A → Value
  -- what a value is read as; None, where the value is not of this form
  pub of : Value → Option A
  -- its numbers are those of its type
  pub Fits : A → Type 0
  -- how deep the values are nested that it holds; 0, where it holds none
  pub depth : A → ℕ

-- ---- what holds values and bytes

-- A value is itself.
abbrev pub value_form : Form Value
value_form = record { to = λ v. v; of = λ v. Some v; Fits = IsStorable; depth = nesting }

-- Bytes are a Blob: `"ab"` is `Blob("ab")`.
abbrev pub bytes_form : Form (List ℕ)
bytes_form = record { to = Blob; of = blob_at; Fits = λ _. Unit {0}; depth = λ _. 0 }

-- A list is the Seq of its items: 1 and 2 are `Seq[Int(1), Int(2)]`.
abbrev pub list_form : {A : Type 0} → Form A → Form (List A)
list_form form = record {
  to = λ xs. Seq (map form.to xs);
  of = λ v. items_at v >>= all_of form.of;
  Fits = AllByRecursion form.Fits;
  depth = λ xs. greatest_of (map form.depth xs);
}

abbrev pub option_items : {A : Type 0} → (A → Value) → Option A → List Value
option_items to None = []
option_items to (Some x) = to x ∷ []

abbrev pub option_of : {A : Type 0} → (Value → Option A) → List Value → Option (Option A)
option_of read [] = Some None
option_of read (v ∷ []) = read v >>= λ x. Some (Some x)
option_of read (v ∷ w ∷ vs) = None

abbrev pub OptionFits : {A : Type 0} → (A → Type 0) → Option A → Type 0
OptionFits P None = Unit {0}
OptionFits P (Some x) = P x

abbrev pub option_depth : {A : Type 0} → (A → ℕ) → Option A → ℕ
option_depth depth None = 0
option_depth depth (Some x) = depth x

-- An option is a Seq of none or one: None is `Seq[]`, and 3 is `Seq[Int(3)]`. A Seq of two is none.
abbrev pub option_form : {A : Type 0} → Form A → Form (Option A)
option_form form = record {
  to = λ x. Seq (option_items form.to x);
  of = λ v. items_at v >>= option_of form.of;
  Fits = OptionFits form.Fits;
  depth = option_depth form.depth;
}

-- ---- what has bounds of its own

abbrev pub passing : {A : Type 0} → (A → Bool) → A → Option A
passing test x = if test x then Some x else None

-- What a form reads, where it passes a test, and what the test means of things that are written. With a test for 1 to 16, `Int(17)` is none.
abbrev pub tested_form : {A : Type 0} → (A → Bool) → (A → Type 0) → Form A → Form A
tested_form test Holds form = record { to = form.to; of = λ v. form.of v >>= passing test; Fits = λ x. form.Fits x × Holds x; depth = form.depth }
