-- What the forms of windows and of restrictions meet.
use Rattle.std.proofs.Common.{◌≡◌, ◌≤◌, ◌<ℤ◌, true, refl, arith, le-leb, leb-true}
use Rattle.std.proofs.lemmas.Int.{ints}
use Rattle.std.specs.Prelude.{int_lt, nat_le}
use Rattle.beam_values.specs.Intervals.{Interval}
use Rattle.value_forms.specs.Windows.{span_fields, span_of, span_form, range_fields, range_of, range_form}
use Rattle.value_forms.proofs.FormLaws.{IsForm, tested_is_form}
use Rattle.value_forms.proofs.NumberLaws.{signed_is_form, bits_is_form}
use Rattle.value_forms.proofs.StructLaws.{no_more_is_row, and_is_row, struct_is_form}

span_passes : (s : Interval) → s.start <ℤ s.end → int_lt s.start s.end ≡ true
span_passes s h = grind (arith, ints)

span_meant : (s : Interval) → int_lt s.start s.end ≡ true → s.start <ℤ s.end
span_meant s h = grind (arith, ints)

pub span_is_form : IsForm span_form span_form.Fits 2
span_is_form =
    tested_is_form (struct_is_form span_fields span_of (and_is_row signed_is_form (and_is_row signed_is_form no_more_is_row)) (λ s. refl) (λ x. refl)) (λ s. int_lt s.start s.end) (λ s. s.start <ℤ s.end) (λ s. s.start <ℤ s.end) span_passes span_meant

pub range_is_form : IsForm range_form range_form.Fits 2
range_is_form =
    tested_is_form (struct_is_form range_fields range_of (and_is_row bits_is_form (and_is_row bits_is_form no_more_is_row)) (λ r. refl) (λ x. refl)) (λ r. nat_le r.from r.to) (λ r. r.from ≤ r.to) (λ r. r.from ≤ r.to) (λ r h. le-leb r.from r.to h) (λ r h. leb-true r.from r.to h)
