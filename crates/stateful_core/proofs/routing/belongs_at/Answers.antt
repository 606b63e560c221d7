use Rattle.std.proofs.Common.{arith, ◌∙◌}
use Rattle.stateful_core.specs.Seen.{cells_of}
use Rattle.stateful_core.proofs.ByIndex.{at_behind, at_front, at_nowhere}
use Rattle.stateful_core.proofs.routing.belongs_at.Goals as goal

pub returns-then-at-slots : goal.returns-then-at-slots
returns-then-at-slots c =
    c.belongs.ensures ∙ at_front c.args.arrival.now c.args.slots.now (cells_of c.args.fresh.now) c.args.at c.index-slots-at.result c.if-at-slots.true c.index-slots-at.is

pub returns-then-behind-fresh : goal.returns-then-behind-fresh
returns-then-behind-fresh c =
    c.belongs-then-behind-fresh.ensures
    ∙ at_behind c.args.arrival.now c.args.slots.now c.args.fresh.now c.args.at _ c.index-fresh-behind.result (omega (arith, c.if-at-slots.false)) c.if-behind-fresh.true c.index-fresh-behind.is

pub returns : goal.returns
returns c = at_nowhere c.args.arrival.now c.args.slots.now c.args.fresh.now c.args.at _ (omega (arith, c.if-at-slots.false)) c.if-behind-fresh.false
