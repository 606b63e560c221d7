use Rattle.std.proofs.Common.{List, rules, subst, sym}
use Rattle.std.proofs.lemmas.List.Sorted.{IsPermutation-trans}
use Rattle.beam_values.specs.Cells.{pane_cmp}
use Rattle.beam_values.specs.declared.cell.Pane.{Pane}
use Rattle.beam_values.proofs.Sorts.{sorted_from_sort_by}
use Rattle.group_cells.specs.Plain.{AreGroupFired}
use Rattle.group_cells.proofs.FiredNodes.{pane_total}
use Rattle.group_cells.proofs.groups.draft.Draft.fire_group.Goals as goal

pub returns-clause-fired : goal.returns-clause-fired
returns-clause-fired c =
    subst (λ (l : List Pane). AreGroupFired c.args.rules.now c.args.node c.args.commit c.args.mark c.args.self.now.cells c.fire_cells.new.self.cells l) (sym c.from_vec.ensures) (record {
      panes = c.in_ok-panes.panes.items;
      each = c.in_ok-panes.ensures.fired.each;
      order = IsPermutation-trans c.in_ok-panes.panes.items c.sort_by_ranks.new.panes.items c.sort_by.new.self.items c.sort_by_ranks.ensures c.in_ok-sort_by.ensures.permutation;
      ordered = sorted_from_sort_by pane_cmp pane_total c.sort_by.new.self.items c.in_ok-sort_by.ensures.sorted (λ a r q k. search rules);
      fires = c.in_ok-panes.ensures.fired.fires;
    })
