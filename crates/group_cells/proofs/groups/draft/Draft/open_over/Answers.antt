use Rattle.std.proofs.Common.{◌∙◌, get_or, refl}
use Rattle.group_cells.specs.Placing.{handed_over, once_opened}
use Rattle.group_cells.proofs.GivenWay.{over_step}
use Rattle.group_cells.proofs.groups.draft.Draft.open_over.Goals as goal

pub loop-place-preserved : goal.loop-place-preserved
loop-place-preserved c = record {
  cells = over_step (once_opened c.args.rules.now c.args.before c.args.span) (handed_over c.args.rules.now c.args.before c.args.span) c.args.key.now.node c.args.key.now.key c.args.span
      c.args.self.now.cells c.loop-place.self.cells c.hand_over.new.self.cells c.args.places.now c.loop-place.place-index (get_or c.args.places.now c.loop-place.place-index 0)
      c.loop-place-test.true refl c.loop-place.invariant.cells c.in_ok-hand_over.ensures.ok;
  same = (c.in_ok-hand_over.ensures.same.0 ∙ c.loop-place.invariant.same.0, c.in_ok-hand_over.ensures.same.1 ∙ c.loop-place.invariant.same.1);
}
