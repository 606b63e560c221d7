-- What the forms of source items, their pieces and what failed meet.
use Rattle.std.proofs.Common.{◌≡◌, ◌^◌, ◌<◌, Some, refl, arith}
use Rattle.beam_values.specs.declared.fault.Cause.{Cause}
use Rattle.beam_values.specs.declared.fault.Cause.TheVariants.{Call, Read}
use Rattle.value_forms.specs.Enums.{named}
use Rattle.value_forms.specs.Pieces.{cause_place, cause_names, cause_form, note_fields, note_of, note_form, file_fields, file_of, file_form, piece_fields, piece_of, piece_form, done_fields, done_of, done_form, dead_fields, dead_of, dead_form}
use Rattle.value_forms.proofs.EnumLaws.{names_is_form}
use Rattle.value_forms.proofs.FormLaws.{IsForm, option_is_form}
use Rattle.value_forms.proofs.NumberLaws.{u32_is_form, bits_is_form, time_is_form}
use Rattle.value_forms.proofs.StructLaws.{no_more_is_row, and_is_row, struct_is_form}
use Rattle.value_forms.proofs.WindowLaws.{range_is_form}

cause_found : (c : Cause) → named 0 cause_names (cause_place c) ≡ Some c
cause_found Call = refl
cause_found Read = refl

cause_small : (c : Cause) → cause_place c < 2 ^ 63
cause_small Call = omega arith
cause_small Read = omega arith

pub cause_is_form : IsForm cause_form cause_form.Fits 2
cause_is_form = names_is_form cause_names cause_place refl cause_found cause_small

pub note_is_form : IsForm note_form note_form.Fits 3
note_is_form = struct_is_form note_fields note_of (and_is_row u32_is_form (and_is_row u32_is_form (and_is_row u32_is_form (and_is_row u32_is_form (and_is_row cause_is_form no_more_is_row))))) (λ n. refl) (λ x. refl)

pub file_is_form : IsForm file_form file_form.Fits 2
file_is_form = struct_is_form file_fields file_of (and_is_row u32_is_form (and_is_row u32_is_form (and_is_row bits_is_form no_more_is_row))) (λ f. refl) (λ x. refl)

pub piece_is_form : IsForm piece_form piece_form.Fits 5
piece_is_form =
    struct_is_form piece_fields piece_of
    (and_is_row u32_is_form (and_is_row u32_is_form (and_is_row range_is_form (and_is_row time_is_form (and_is_row u32_is_form (and_is_row (option_is_form note_is_form) no_more_is_row)))))) (λ p. refl) (λ x. refl)

pub done_is_form : IsForm done_form done_form.Fits 3
done_is_form = struct_is_form done_fields done_of (and_is_row u32_is_form (and_is_row u32_is_form (and_is_row range_is_form no_more_is_row))) (λ d. refl) (λ x. refl)

pub dead_is_form : IsForm dead_form dead_form.Fits 4
dead_is_form = struct_is_form dead_fields dead_of (and_is_row u32_is_form (and_is_row u32_is_form (and_is_row bits_is_form (and_is_row note_is_form no_more_is_row)))) (λ d. refl) (λ x. refl)
