use Rattle.std.proofs.Common.{List, map, refl, subst}
use Rattle.beam_values.specs.Bags.{IsSameBag}
use Rattle.beam_values.specs.Grouping.{part_of}
use Rattle.beam_values.specs.declared.cell.Entry.{Entry}
use Rattle.group_cells.specs.Cells.{entries_held}
use Rattle.group_cells.proofs.FiredPanes.{is_pane}
use Rattle.group_cells.proofs.firing.pane_with.Goals as goal

pub returns-clause-pane : goal.returns-clause-pane
returns-clause-pane c =
    let cell = c.args.cell.now in
    is_pane cell.node cell.key c.args.commit cell.span c.args.timing cell.next_index (entries_held c.args.mode cell.entries) _ c.in_ok-parts.parts
    c.in_ok-pane_as.ensures refl refl c.in_ok-parts.ensures.ascending
    (subst (λ (l : List Entry). IsSameBag c.in_ok-parts.parts (map (λ entry. part_of entry.element) (entries_held c.args.mode l))) c.as_slice.ensures c.in_ok-parts.ensures.those)
