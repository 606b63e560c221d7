-- Written so: the head of a Seq of sixteen, and then each field.
use Rattle.std.proofs.Common.{List, [], ◌∷◌, refl}
use Rattle.beam_values.specs.declared.value.Value.{Value}
use Rattle.beam_coders.proofs.Keeping.{keeps_on, on_ok}
use Rattle.value_forms.specs.Cells.{pane_form, cell_form, dropped_form}
use Rattle.value_forms.specs.Commits.{commit_form}
use Rattle.value_forms.specs.Elements.{arrival_form}
use Rattle.value_forms.specs.Forms.{list_form}
use Rattle.value_forms.specs.Numbers.{bits_form}
use Rattle.value_forms.specs.Pieces.{file_form, piece_form, done_form, dead_form}
use Rattle.value_forms.specs.Plans.{options_form, plan_form}
use Rattle.book_core.specs.BookForms.{waiting_pane_form, batch_form}
use Rattle.stateful_core.specs.KeyForms.{key_form}
use Rattle.book_core.proofs.FieldLaws.{field_written, fields_written}
use Rattle.book_core.proofs.stored_book.BookDataStored.write.Goals as goal

pub returns-clause-ok : goal.returns-clause-ok
returns-clause-ok c =
    let d = c.args.self.now in
    let at_end : List Value = [] in
    let from_reads : List Value = bits_form.to d.reads ∷ at_end in
    let from_calls : List Value = bits_form.to d.calls ∷ from_reads in
    let from_commits : List Value = (list_form commit_form).to d.commits ∷ from_calls in
    let from_written : List Value = (list_form arrival_form).to d.written ∷ from_commits in
    let from_dead : List Value = (list_form dead_form).to d.dead ∷ from_written in
    let from_done : List Value = (list_form done_form).to d.done ∷ from_dead in
    let from_panes : List Value = (list_form pane_form).to d.panes ∷ from_done in
    let from_keys : List Value = (list_form key_form).to d.keys ∷ from_panes in
    let from_dropped : List Value = (list_form dropped_form).to d.dropped ∷ from_keys in
    let from_cells : List Value = (list_form cell_form).to d.cells ∷ from_dropped in
    let from_returned : List Value = (list_form batch_form).to d.returned ∷ from_cells in
    let from_waiting : List Value = (list_form waiting_pane_form).to d.waiting ∷ from_returned in
    let from_pending : List Value = (list_form piece_form).to d.pending ∷ from_waiting in
    let from_options : List Value = options_form.to d.options ∷ from_pending in
    let from_files : List Value = (list_form file_form).to d.files ∷ from_options in
    let from_plan : List Value = plan_form.to d.plan ∷ from_files in
    on_ok c.write-16.result
    (λ e.
    fields_written c.args.out.now c.append_seq.new.out c.write-16.new.out from_plan c.in_ok-append_seq.ensures.ok
    (field_written c.append_seq.new.out c.write.new.out c.write-16.new.out (plan_form.to d.plan) from_files c.in_ok-write.ensures.ok
    (field_written c.write.new.out c.write-2.new.out c.write-16.new.out ((list_form file_form).to d.files) from_options c.in_ok-write-2.ensures.ok
    (field_written c.write-2.new.out c.write-3.new.out c.write-16.new.out (options_form.to d.options) from_pending c.in_ok-write-3.ensures.ok
    (field_written c.write-3.new.out c.write-4.new.out c.write-16.new.out ((list_form piece_form).to d.pending) from_waiting c.in_ok-write-4.ensures.ok
    (field_written c.write-4.new.out c.write-5.new.out c.write-16.new.out ((list_form waiting_pane_form).to d.waiting) from_returned c.in_ok-write-5.ensures.ok
    (field_written c.write-5.new.out c.write-6.new.out c.write-16.new.out ((list_form batch_form).to d.returned) from_cells c.in_ok-write-6.ensures.ok
    (field_written c.write-6.new.out c.write-7.new.out c.write-16.new.out ((list_form cell_form).to d.cells) from_dropped c.in_ok-write-7.ensures.ok
    (field_written c.write-7.new.out c.write-8.new.out c.write-16.new.out ((list_form dropped_form).to d.dropped) from_keys c.in_ok-write-8.ensures.ok
    (field_written c.write-8.new.out c.write-9.new.out c.write-16.new.out ((list_form key_form).to d.keys) from_panes c.in_ok-write-9.ensures.ok
    (field_written c.write-9.new.out c.write-10.new.out c.write-16.new.out ((list_form pane_form).to d.panes) from_done c.in_ok-write-10.ensures.ok
    (field_written c.write-10.new.out c.write-11.new.out c.write-16.new.out ((list_form done_form).to d.done) from_dead c.in_ok-write-11.ensures.ok
    (field_written c.write-11.new.out c.write-12.new.out c.write-16.new.out ((list_form dead_form).to d.dead) from_written c.in_ok-write-12.ensures.ok
    (field_written c.write-12.new.out c.write-13.new.out c.write-16.new.out ((list_form arrival_form).to d.written) from_commits c.in_ok-write-13.ensures.ok
    (field_written c.write-13.new.out c.write-14.new.out c.write-16.new.out ((list_form commit_form).to d.commits) from_calls c.in_ok-write-14.ensures.ok
    (field_written c.write-14.new.out c.write-15.new.out c.write-16.new.out (bits_form.to d.calls) from_reads c.in_ok-write-15.ensures.ok
    (field_written c.write-15.new.out c.write-16.new.out c.write-16.new.out (bits_form.to d.reads) at_end e refl)))))))))))))))))
    c.write-16.ensures.ok

pub returns-clause-kept : goal.returns-clause-kept
returns-clause-kept c =
    keeps_on c.args.out.now c.append_seq.new.out c.write-16.new.out c.append_seq.ensures.kept
    (keeps_on c.append_seq.new.out c.write.new.out c.write-16.new.out c.write.ensures.kept
    (keeps_on c.write.new.out c.write-2.new.out c.write-16.new.out c.write-2.ensures.kept
    (keeps_on c.write-2.new.out c.write-3.new.out c.write-16.new.out c.write-3.ensures.kept
    (keeps_on c.write-3.new.out c.write-4.new.out c.write-16.new.out c.write-4.ensures.kept
    (keeps_on c.write-4.new.out c.write-5.new.out c.write-16.new.out c.write-5.ensures.kept
    (keeps_on c.write-5.new.out c.write-6.new.out c.write-16.new.out c.write-6.ensures.kept
    (keeps_on c.write-6.new.out c.write-7.new.out c.write-16.new.out c.write-7.ensures.kept
    (keeps_on c.write-7.new.out c.write-8.new.out c.write-16.new.out c.write-8.ensures.kept
    (keeps_on c.write-8.new.out c.write-9.new.out c.write-16.new.out c.write-9.ensures.kept
    (keeps_on c.write-9.new.out c.write-10.new.out c.write-16.new.out c.write-10.ensures.kept
    (keeps_on c.write-10.new.out c.write-11.new.out c.write-16.new.out c.write-11.ensures.kept
    (keeps_on c.write-11.new.out c.write-12.new.out c.write-16.new.out c.write-12.ensures.kept
    (keeps_on c.write-12.new.out c.write-13.new.out c.write-16.new.out c.write-13.ensures.kept
    (keeps_on c.write-13.new.out c.write-14.new.out c.write-16.new.out c.write-14.ensures.kept
    (keeps_on c.write-14.new.out c.write-15.new.out c.write-16.new.out c.write-15.ensures.kept
    (c.write-16.ensures.kept))))))))))))))))
