use Rattle.std.proofs.Common.{List, ap, subst, ◌∙◌}
use Rattle.beam_values.specs.declared.cell.Entry.{Entry}
use Rattle.group_cells.specs.Unfiring.{unfired, was_shown, AreShownAs}
use Rattle.group_cells.specs.declared.groups.fired.Unfired.{Unfired}
use Rattle.group_cells.proofs.Unfiring.{unfired_back}
use Rattle.group_cells.proofs.groups.fired.set_fired.Goals as goal

pub returns-clause-before : goal.returns-clause-before
returns-clause-before c =
    let cell = c.args.cell.now in
    let shown_before = c.in_ok-of.field-0 in
    let before : Unfired = record { next_index = cell.next_index; on_time = cell.on_time; shown = shown_before } in
    ap (unfired before) c.set_timed.ensures
    ∙ unfired_back c.args.timing cell shown_before (subst (λ (l : List Entry). AreShownAs (was_shown shown_before) l) c.as_slice.ensures c.in_ok-of.ensures)
