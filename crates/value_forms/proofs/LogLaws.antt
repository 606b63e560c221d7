-- What the forms of what stateful functions keep and were called on meet.
use Rattle.std.proofs.Common.{◌≡◌, inl, inr, refl, arith}
use Rattle.beam_values.specs.declared.log.LogInput.{LogInput}
use Rattle.beam_values.specs.declared.log.LogInput.TheVariants.{Arrived, Fired}
use Rattle.beam_values.specs.declared.state_cell.StateCell.{StateCell}
use Rattle.beam_values.specs.declared.state_cell.StateCell.TheVariants.{Unset, Number, Text, Bag}
use Rattle.value_forms.specs.Logs.{timer_fields, timer_of, timer_form, input_parts, input_of, input_form, log_fields, log_of, log_form, StateParts, state_parts, state_of, state_form}
use Rattle.value_forms.proofs.ElementLaws.{element_is_form}
use Rattle.value_forms.proofs.EnumLaws.{last_is_cases, or_is_cases, enum_is_form}
use Rattle.value_forms.proofs.FormLaws.{IsForm, value_is_form, bytes_is_form, list_is_form}
use Rattle.value_forms.proofs.NumberLaws.{u8_is_form, u32_is_form, signed_is_form, time_is_form}
use Rattle.value_forms.proofs.StructLaws.{no_more_is_row, and_is_row, struct_is_form}

pub timer_is_form : IsForm timer_form timer_form.Fits 2
timer_is_form = struct_is_form timer_fields timer_of (and_is_row u8_is_form (and_is_row time_is_form no_more_is_row)) (λ t. refl) (λ x. refl)

input_back : (i : LogInput) → input_of (input_parts i) ≡ i
input_back (Arrived element) = refl
input_back (Fired timer) = refl

input_forth : (x : _) → input_parts (input_of x) ≡ x
input_forth (inl x) = refl
input_forth (inr x) = refl

pub input_is_form : IsForm input_form input_form.Fits 6
input_is_form = enum_is_form input_parts input_of (or_is_cases (and_is_row element_is_form no_more_is_row) (last_is_cases (and_is_row timer_is_form no_more_is_row))) (omega arith) input_back input_forth

pub log_is_form : IsForm log_form log_form.Fits 7
log_is_form = struct_is_form log_fields log_of (and_is_row input_is_form (and_is_row u32_is_form (and_is_row (list_is_form element_is_form) no_more_is_row))) (λ e. refl) (λ x. refl)

state_back : (s : StateCell) → state_of (state_parts s) ≡ s
state_back Unset = refl
state_back (Number n) = refl
state_back (Text bytes) = refl
state_back (Bag values) = refl

state_forth : (x : StateParts) → state_parts (state_of x) ≡ x
state_forth (inl x) = refl
state_forth (inr (inl x)) = refl
state_forth (inr (inr (inl x))) = refl
state_forth (inr (inr (inr x))) = refl

pub state_is_form : IsForm state_form state_form.Fits 3
state_is_form =
    enum_is_form state_parts state_of
    (or_is_cases no_more_is_row (or_is_cases (and_is_row signed_is_form no_more_is_row) (or_is_cases (and_is_row bytes_is_form no_more_is_row) (last_is_cases (and_is_row (list_is_form value_is_form) no_more_is_row)))))
    (omega arith) state_back state_forth
