use Rattle.std.proofs.Common.{◌∷◌, [], Option, map, refl, subst}
use Rattle.beam_values.specs.declared.element.Timing.{Timing}
use Rattle.beam_model.specs.Panes.{GroupRules, taken_entry, IsFiredAs, IsPaneOf}
use Rattle.group_cells.specs.Cells.{entries_held}
use Rattle.group_cells.proofs.firing.pane_of.Goals as goal

pub returns-in_ok-pane_with-in-Some-clause-pane : goal.returns-in_ok-pane_with-in-Some-clause-pane
returns-in_ok-pane_with-in-Some-clause-pane c =
    let cell = c.args.cell.now in
    let pane = c.in_ok-pane_with-in-Some.field-0 in
    subst
    (λ (t : Option Timing). IsFiredAs cell.node cell.key c.args.commit cell.span cell.next_index (map (taken_entry cell.node) (entries_held c.args.rules.now.trigger.mode cell.entries)) t (pane ∷ []))
    (c.in-Some.ensures) (
      pane,
      refl,
      subst (λ (r : GroupRules). IsPaneOf cell.node cell.key c.args.commit cell.span c.in-Some.timing cell.next_index (map (taken_entry cell.node) (entries_held r.trigger.mode cell.entries)) pane)
          c.rules.view_is c.in_ok-pane_with-in-Some.ensures.pane,
    )
