-- What stands once the fields of a struct are written one after another, for structs of many fields.
use Rattle.std.proofs.Common.{◌≡◌, ℕ, List, ◌∷◌, ◌++◌, length, sym, ap, ◌∙◌}
use Rattle.beam_values.specs.declared.value.Value.{Value}
use Rattle.beam_values.specs.declared.value.Value.TheVariants.{Seq}
use Rattle.beam_values.specs.Spelling.{spelling}
use Rattle.value_forms.specs.Writing.{seq_head}
use Rattle.value_forms.proofs.Written.{spelled_onto, seq_onto}

-- a field, and then the others
pub field_written : (before after text : List ℕ) (v : Value) (others : List Value) → after ≡ before ++ spelling v → text ≡ spelled_onto after others → text ≡ spelled_onto before (v ∷ others)
field_written before after text v others p q = q ∙ ap (λ (t : List ℕ). spelled_onto t others) p

-- the head, and then the fields
pub fields_written : (before after text : List ℕ) (fields : List Value) → after ≡ before ++ seq_head (length fields) → text ≡ spelled_onto after fields → text ≡ before ++ spelling (Seq fields)
fields_written before after text fields p q = q ∙ ap (λ (t : List ℕ). spelled_onto t fields) p ∙ sym (seq_onto before fields)
