-- What the forms of what key cells hold meet.
use Rattle.std.proofs.Common.{refl}
use Rattle.value_forms.proofs.ElementLaws.{element_is_form}
use Rattle.value_forms.proofs.FormLaws.{IsForm, value_is_form, list_is_form}
use Rattle.value_forms.proofs.LogLaws.{timer_is_form, log_is_form, state_is_form}
use Rattle.value_forms.proofs.NumberLaws.{u32_is_form, mark_is_form}
use Rattle.value_forms.proofs.StructLaws.{no_more_is_row, and_is_row, struct_is_form}
use Rattle.value_forms.proofs.WindowLaws.{span_is_form}
use Rattle.stateful_core.specs.KeyForms.{waiting_fields, waiting_of, waiting_form, set_timer_fields, set_timer_of, set_timer_form, key_fields, key_of, key_form}

pub waiting_is_form : IsForm waiting_form waiting_form.Fits 5
waiting_is_form = struct_is_form waiting_fields waiting_of (and_is_row element_is_form (and_is_row mark_is_form no_more_is_row)) (λ w. refl) (λ x. refl)

pub set_timer_is_form : IsForm set_timer_form set_timer_form.Fits 3
set_timer_is_form = struct_is_form set_timer_fields set_timer_of (and_is_row timer_is_form (and_is_row mark_is_form no_more_is_row)) (λ s. refl) (λ x. refl)

pub key_is_form : IsForm key_form key_form.Fits 9
key_is_form =
    struct_is_form key_fields key_of
    (and_is_row u32_is_form
    (and_is_row value_is_form
    (and_is_row span_is_form
    (and_is_row (list_is_form state_is_form)
    (and_is_row (list_is_form set_timer_is_form)
    (and_is_row (list_is_form waiting_is_form) (and_is_row u32_is_form (and_is_row (list_is_form log_is_form) no_more_is_row)))))))) (λ k. refl) (λ x. refl)
