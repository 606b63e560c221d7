-- What the forms of elements meet.
use Rattle.std.proofs.Common.{◌≡◌, ◌^◌, ◌<◌, Some, refl, arith}
use Rattle.beam_values.specs.declared.element.Timing.{Timing}
use Rattle.beam_values.specs.declared.element.Timing.TheVariants.{Early, OnTime, Late, Unknown}
use Rattle.beam_values.specs.Timings.{timing_number}
use Rattle.value_forms.specs.Enums.{named}
use Rattle.value_forms.specs.Elements.{timing_names, timing_form, tag_fields, tag_of, tag_form, element_fields, element_of, element_form, arrival_fields, arrival_of, arrival_form}
use Rattle.value_forms.proofs.EnumLaws.{names_is_form}
use Rattle.value_forms.proofs.FormLaws.{IsForm, value_is_form}
use Rattle.value_forms.proofs.NumberLaws.{u32_is_form, time_is_form}
use Rattle.value_forms.proofs.StructLaws.{no_more_is_row, and_is_row, struct_is_form}
use Rattle.value_forms.proofs.WindowLaws.{span_is_form}

timing_found : (t : Timing) → named 0 timing_names (timing_number t) ≡ Some t
timing_found Early = refl
timing_found OnTime = refl
timing_found Late = refl
timing_found Unknown = refl

timing_small : (t : Timing) → timing_number t < 2 ^ 63
timing_small Early = omega arith
timing_small OnTime = omega arith
timing_small Late = omega arith
timing_small Unknown = omega arith

pub timing_is_form : IsForm timing_form timing_form.Fits 2
timing_is_form = names_is_form timing_names timing_number refl timing_found timing_small

pub tag_is_form : IsForm tag_form tag_form.Fits 3
tag_is_form = struct_is_form tag_fields tag_of (and_is_row timing_is_form (and_is_row u32_is_form no_more_is_row)) (λ t. refl) (λ x. refl)

pub element_is_form : IsForm element_form element_form.Fits 4
element_is_form = struct_is_form element_fields element_of (and_is_row value_is_form (and_is_row time_is_form (and_is_row span_is_form (and_is_row tag_is_form no_more_is_row)))) (λ e. refl) (λ x. refl)

pub arrival_is_form : IsForm arrival_form arrival_form.Fits 5
arrival_is_form = struct_is_form arrival_fields arrival_of (and_is_row u32_is_form (and_is_row element_is_form no_more_is_row)) (λ a. refl) (λ x. refl)
