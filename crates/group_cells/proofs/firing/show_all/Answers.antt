use Rattle.std.proofs.Common.{◌∙◌, ◌<◌, ap, arith, length, refl}
use Rattle.group_cells.specs.Cells.{shown}
use Rattle.group_cells.proofs.ShownFirst.{shown_start}
use Rattle.group_cells.proofs.Writes.{still_within, written_more}
use Rattle.group_cells.proofs.firing.show_all.Goals as goal

pub loop-at-init : goal.loop-at-init
loop-at-init c = record {
  within = c.requires.within;
  items = c.into_vec-items.ensures ∙ c.replace.ensures.value ∙ shown_start c.args.from c.args.entries.now c.requires;
}

pub loop-at-preserved : goal.loop-at-preserved
loop-at-preserved c =
    let items = c.loop-at.items.items in
    let at = c.loop-at.at in
    let inside : at < length c.args.entries.now = omega (arith, c.loop-at-test.true, ap length (c.into_vec-items.ensures ∙ c.replace.ensures.value)) in
    record {
      within = omega (arith, inside);
      items = written_more shown c.args.entries.now items at c.index_mut.result.now (shown c.index_mut.result.now) (still_within shown c.args.entries.now items at inside c.loop-at.invariant.items)
          c.loop-at.invariant.items c.index_mut.ensures.value refl;
    }
