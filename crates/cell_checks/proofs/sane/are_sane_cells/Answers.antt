use Rattle.std.proofs.Common.{◌≡◌, List, true, ap, subst, sym, ◌∙◌}
use Rattle.std.specs.Borrow.{Bor}
use Rattle.std.specs.List.{list_all}
use Rattle.std.proofs.lemmas.Bool.{false≢true}
use Rattle.beam_values.specs.declared.cell.Cell.{Cell}
use Rattle.beam_values.specs.declared.plan.Plan.{Plan}
use Rattle.cell_checks.specs.Listing.{AreSaneGroups, cells_in, is_settled}
use Rattle.cell_checks.proofs.Whole.{groups_from, sane_from, settled_from}
use Rattle.cell_checks.proofs.sane.are_sane_cells.Goals as goal

pub returns-then-not-are_settled : goal.returns-then-not-are_settled
returns-then-not-are_settled c =
    let marks = c.args.marks.now in
    let cells = c.args.cells.now in (
      (λ no. absurd (false≢true no)),
      (λ sane.
          absurd (false≢true (sym c.if-not-are_settled.true ∙ c.are_settled.ensures ∙ ap (λ (p : Plan). list_all (is_settled p marks) cells) c.in_ok-plan.ensures
          ∙ settled_from c.args.plan.now marks cells sane))),
    )

pub returns : goal.returns
returns c =
    let plan = c.args.plan.now in
    let marks = c.args.marks.now in
    let cells = c.args.cells.now in
    let listed = c.in_ok-listed.listed.items in
    let settled : list_all (is_settled plan marks) cells ≡ true =
    sym (ap (λ (p : Plan). list_all (is_settled p marks) cells) c.in_ok-plan.ensures) ∙ sym c.are_settled.ensures ∙ c.if-not-are_settled.false in (
      (λ yes.
          sane_from plan marks cells (cells_in listed) settled c.in_ok-listed.ensures.those
          (subst (λ (p : Plan). AreSaneGroups p marks (cells_in listed)) c.in_ok-plan.ensures
          (subst (λ (l : List (Bor Cell)). AreSaneGroups c.in_ok-plan.plan marks (cells_in l)) c.as_slice.ensures.value (c.are_sane_groups.ensures.0 yes)))),
      (λ sane.
          c.are_sane_groups.ensures.1
          (subst (λ (l : List (Bor Cell)). AreSaneGroups c.in_ok-plan.plan marks (cells_in l)) (sym c.as_slice.ensures.value)
          (subst (λ (p : Plan). AreSaneGroups p marks (cells_in listed)) (sym c.in_ok-plan.ensures) (groups_from plan marks cells (cells_in listed) c.in_ok-listed.ensures.those sane)))),
    )
