use Rattle.std.proofs.Common.{sym, ◌∙◌}
use Rattle.group_cells.proofs.PlainPlacing.{put_found}
use Rattle.group_cells.proofs.windows.first_taker.Goals as goal

pub returns-then-takes_at : goal.returns-then-takes_at
returns-then-takes_at c = (
  c.loop-at-test.true,
  put_found c.args.rules.now c.args.node c.args.key.now c.args.entry.now c.args.cells.now c.loop-at.at c.index-cells-at.result c.loop-at-test.true c.index-cells-at.is
      (sym c.takes_at.ensures ∙ c.if-takes_at.true) c.loop-at.invariant,
)
