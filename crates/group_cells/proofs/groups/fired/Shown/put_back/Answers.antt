use Rattle.std.proofs.Common.{◌≡◌, get_or, ap, arith, sym, ◌∙◌}
use Rattle.group_cells.specs.Unfiring.{was_shown}
use Rattle.group_cells.proofs.Unfiring.{shown_more}
use Rattle.group_cells.proofs.groups.fired.Shown.put_back.Goals as goal

pub loop-entry-preserved : goal.loop-entry-preserved
loop-entry-preserved c =
    let items = c.loop-entry.entry-items in
    let at = c.loop-entry.entry-index in
    let held : c.was_shown-entry.result ≡ was_shown c.args.self.now at = c.was_shown-entry.ensures ∙ ap (was_shown c.args.self.now) c.loop-entry.invariant.at in record {
      at = omega (arith, c.loop-entry.invariant.at);
      items = shown_more (was_shown c.args.self.now) c.args.entries.now items at c.entry-item.result (record (get_or items at c.entry-item.result) { shown = c.was_shown-entry.result }) (omega arith)
          c.loop-entry.invariant.items c.entry-item.is (λ i. record (sym c.entry-item.is i) { shown = held i });
    }
