-- What the form of a book that is stored meets.
use Rattle.std.proofs.Common.{◌≡◌, ◌^◌, ◌<◌, true, refl, arith}
use Rattle.std.specs.List.{AllByRecursion}
use Rattle.value_forms.specs.Plans.{are_options}
use Rattle.value_forms.proofs.CellLaws.{pane_is_form, cell_is_form, dropped_is_form}
use Rattle.value_forms.proofs.CommitLaws.{commit_is_form}
use Rattle.value_forms.proofs.ElementLaws.{arrival_is_form}
use Rattle.value_forms.proofs.FormLaws.{IsForm, list_is_form, with_same}
use Rattle.value_forms.proofs.NumberLaws.{u32_is_form, bits_is_form, mark_is_form}
use Rattle.value_forms.proofs.PieceLaws.{file_is_form, piece_is_form, done_is_form, dead_is_form}
use Rattle.value_forms.proofs.PlanLaws.{options_is_form, plan_is_form}
use Rattle.value_forms.proofs.StructLaws.{no_more_is_row, and_is_row, struct_is_form}
use Rattle.book_core.specs.BookForms.{waiting_pane_fields, waiting_pane_of, waiting_pane_form, batch_fields, batch_from, batch_form, book_fields, book_from, book_form, FitsBook}
use Rattle.stateful_core.proofs.KeyFormLaws.{key_is_form}

pub waiting_pane_is_form : IsForm waiting_pane_form waiting_pane_form.Fits 2
waiting_pane_is_form = struct_is_form waiting_pane_fields waiting_pane_of (and_is_row u32_is_form (and_is_row mark_is_form no_more_is_row)) (λ w. refl) (λ x. refl)

pub batch_is_form : IsForm batch_form batch_form.Fits 4
batch_is_form = struct_is_form batch_fields batch_from (and_is_row u32_is_form (and_is_row (list_is_form waiting_pane_is_form) (and_is_row u32_is_form no_more_is_row))) (λ b. refl) (λ x. refl)

pub book_is_form : IsForm book_form FitsBook 11
book_is_form =
    with_same 11
    (struct_is_form book_fields book_from
    (and_is_row plan_is_form
    (and_is_row (list_is_form file_is_form)
    (and_is_row options_is_form
    (and_is_row (list_is_form piece_is_form)
    (and_is_row (list_is_form waiting_pane_is_form)
    (and_is_row (list_is_form batch_is_form)
    (and_is_row (list_is_form cell_is_form)
    (and_is_row (list_is_form dropped_is_form)
    (and_is_row (list_is_form key_is_form)
    (and_is_row (list_is_form pane_is_form)
    (and_is_row (list_is_form done_is_form)
    (and_is_row (list_is_form dead_is_form)
    (and_is_row (list_is_form arrival_is_form) (and_is_row (list_is_form commit_is_form) (and_is_row bits_is_form (and_is_row bits_is_form no_more_is_row)))))))))))))))) (λ d. refl) (λ x. refl))
    (λ d h. (h.0.0, (h.0.1.0, ((h.0.1.1.0.0, h.1), h.0.1.1.1))))
    (λ d h. ((h.0, (h.1.0, ((h.1.1.0.0, tt), h.1.1.1))), h.1.1.0.1))
    (omega arith)
