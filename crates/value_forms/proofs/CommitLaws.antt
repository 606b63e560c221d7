-- What the forms of the marks of commits meet.
use Rattle.std.proofs.Common.{refl}
use Rattle.value_forms.specs.Commits.{stage_fields, stage_of, stage_form, commit_fields, commit_of, commit_form}
use Rattle.value_forms.proofs.FormLaws.{IsForm, list_is_form}
use Rattle.value_forms.proofs.NumberLaws.{mark_is_form}
use Rattle.value_forms.proofs.StructLaws.{no_more_is_row, and_is_row, struct_is_form}

pub stage_is_form : IsForm stage_form stage_form.Fits 2
stage_is_form = struct_is_form stage_fields stage_of (and_is_row mark_is_form (and_is_row mark_is_form no_more_is_row)) (λ s. refl) (λ x. refl)

pub commit_is_form : IsForm commit_form commit_form.Fits 4
commit_is_form = struct_is_form commit_fields commit_of (and_is_row (list_is_form stage_is_form) no_more_is_row) (λ c. refl) (λ x. refl)
