-- What the forms of cells and of panes meet.
use Rattle.std.proofs.Common.{refl}
use Rattle.value_forms.specs.Cells.{pane_fields, pane_of, pane_form, entry_fields, entry_of, entry_form, cell_fields, cell_of, cell_form, dropped_fields, dropped_of, dropped_form}
use Rattle.value_forms.proofs.ElementLaws.{element_is_form}
use Rattle.value_forms.proofs.FormLaws.{IsForm, value_is_form, list_is_form, option_is_form}
use Rattle.value_forms.proofs.NumberLaws.{u32_is_form, flag_is_form}
use Rattle.value_forms.proofs.StructLaws.{no_more_is_row, and_is_row, struct_is_form}
use Rattle.value_forms.proofs.WindowLaws.{span_is_form}

pub pane_is_form : IsForm pane_form pane_form.Fits 5
pane_is_form = struct_is_form pane_fields pane_of (and_is_row u32_is_form (and_is_row element_is_form (and_is_row u32_is_form no_more_is_row))) (λ p. refl) (λ x. refl)

pub entry_is_form : IsForm entry_form entry_form.Fits 5
entry_is_form = struct_is_form entry_fields entry_of (and_is_row element_is_form (and_is_row u32_is_form (and_is_row flag_is_form no_more_is_row))) (λ e. refl) (λ x. refl)

pub cell_is_form : IsForm cell_form cell_form.Fits 7
cell_is_form =
    struct_is_form cell_fields cell_of
    (and_is_row u32_is_form
    (and_is_row value_is_form (and_is_row span_is_form (and_is_row (list_is_form entry_is_form) (and_is_row u32_is_form (and_is_row flag_is_form (and_is_row (option_is_form span_is_form) no_more_is_row)))))))
    (λ c. refl) (λ x. refl)

pub dropped_is_form : IsForm dropped_form dropped_form.Fits 5
dropped_is_form = struct_is_form dropped_fields dropped_of (and_is_row u32_is_form (and_is_row element_is_form (and_is_row u32_is_form no_more_is_row))) (λ d. refl) (λ x. refl)
