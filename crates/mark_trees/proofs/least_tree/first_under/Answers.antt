use Rattle.std.proofs.Common.{◌-◌, arith, length}
use Rattle.mark_trees.specs.Levels.{lists_of}
use Rattle.mark_trees.proofs.PutUp.{lists_sized, under_pair}
use Rattle.mark_trees.proofs.least_tree.first_under.Goals as goal

pub first_of_pair-at-requires-clause-within : goal.first_of_pair-at-requires-clause-within
first_of_pair-at-requires-clause-within c =
    let items = c.args.levels.now.items in
    (under_pair c.args.bound (lists_of items) (c.len.result - 1 - c.loop-over.over) (length items - c.loop-over.over) c.loop-over.at c.level_at-level.result.now
    (omega (arith, c.len.ensures, c.len-over-end.ensures, c.loop-over-test.true, lists_sized items)) (omega (arith, c.len.ensures, c.len-over-end.ensures, c.loop-over-test.true))
    c.requires.levels c.level_at-level.ensures c.loop-over.invariant).within

pub first_of_pair-at-requires-clause-over : goal.first_of_pair-at-requires-clause-over
first_of_pair-at-requires-clause-over c =
    let items = c.args.levels.now.items in
    (under_pair c.args.bound (lists_of items) (c.len.result - 1 - c.loop-over.over) (length items - c.loop-over.over) c.loop-over.at c.level_at-level.result.now
    (omega (arith, c.len.ensures, c.len-over-end.ensures, c.loop-over-test.true, lists_sized items)) (omega (arith, c.len.ensures, c.len-over-end.ensures, c.loop-over-test.true))
    c.requires.levels c.level_at-level.ensures c.loop-over.invariant).over
