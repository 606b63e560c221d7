use Rattle.std.proofs.Common.{◌≡◌, ◌==◌, ◌&&◌, Some, ap, false, length, refl, rules, sym, true, ◌∙◌}
use mir.Val.{SFits}
use mir.Syntax.{w64}
use Rattle.std.proofs.lemmas.Int.{to_z-of_z}
use Rattle.std.specs.Prelude.{slice_get}
use Rattle.std.proofs.lemmas.Option.{slice_get_read}
use Rattle.group_cells.specs.Due.{has_moment, is_due_as, own_moment}
use Rattle.group_cells.proofs.DueKeys.{counted_as}
use Rattle.group_cells.proofs.groups.due.DueCells.is_due.Goals as goal

pub returns-then-cell-key : goal.returns-then-cell-key
returns-then-cell-key c =
    let plan = c.args.plan.now in
    let key = c.args.key in
    let cells = c.args.cells.now in
    let cell = c.in-Some.cell.now in
    let read = c.in-Some.ensures.lookup.3 in
    let there : slice_get cells key.place ≡ Some cell = slice_get_read cells (length cells) key.place cell refl read.0 (read.1 cell) in
    let on : (cell.node == key.node) ≡ true = search rules in
    let own = c.moment_with-moment.ensures cell.entries cell.next_index (counted_as c.args.self.now cells key.place cell c.index-count.result.now c.requires there c.index-count.ensures) in
    let fits : SFits w64 key.moment = search rules in
    c.has_moment.ensures ∙ ap (has_moment c.moment_with-moment.result) (to_z-of_z w64 key.moment fits) ∙ ap (λ m. has_moment m key.moment) own ∙ sym (ap (is_due_as plan key) there ∙ ap (λ b. b && has_moment (own_moment plan cell) key.moment) on)

pub returns-else-cell-key : goal.returns-else-cell-key
returns-else-cell-key c =
    let plan = c.args.plan.now in
    let key = c.args.key in
    let cells = c.args.cells.now in
    let cell = c.in-Some.cell.now in
    let read = c.in-Some.ensures.lookup.3 in
    let there : slice_get cells key.place ≡ Some cell = slice_get_read cells (length cells) key.place cell refl read.0 (read.1 cell) in
    let off : (cell.node == key.node) ≡ false = search rules in
    off ∙ sym (ap (is_due_as plan key) there ∙ ap (λ b. b && has_moment (own_moment plan cell) key.moment) off)
