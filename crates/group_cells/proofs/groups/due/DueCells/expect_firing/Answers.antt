use Rattle.std.proofs.Common.{◌+◌, Bool, Some, ap, map, refl, sym, ◌∙◌}
use Rattle.std.proofs.lemmas.Result.{on_ok_weaker}
use Rattle.group_cells.specs.Cells.{once_fired, shown}
use Rattle.group_cells.specs.Due.{own_moment}
use Rattle.group_cells.proofs.DueKeys.{count_read}
use Rattle.group_cells.proofs.Settling.{all_shown}
use Rattle.group_cells.proofs.groups.due.DueCells.expect_firing.Goals as goal

pub returns-clause-ok : goal.returns-clause-ok
returns-clause-ok c =
    on_ok_weaker c.change.result
    (λ changed cells h found.
    let cell = c.args.cell.now in
    let was = count_read c.args.plan.now c.args.self.now cells c.args.place cell c.index-count.result.now h found c.index-count.ensures in
    changed c.args.plan.now cells cell (once_fired (Some c.args.timing) cell) h.moments found (c.moment_with-left.ensures cell.entries cell.next_index was) (c.moment_with-entered.ensures (map shown cell.entries) (cell.next_index + 1) (sym (all_shown cell.entries))
    ∙ ap (λ (b : Bool). own_moment c.args.plan.now (record cell { entries = map shown cell.entries; next_index = cell.next_index + 1; on_time = b })) c.is_on_time_with-on_time.ensures) refl refl)
    c.change.ensures.ok
