use Rattle.std.proofs.Common.{w64}
use Rattle.std.proofs.lemmas.Int.{to_z-of_z}
use Rattle.plan_reader.proofs.TreeTurns.{out_of_bounds, taken}
use Rattle.plan_reader.proofs.trees.bars_within.Goals as goal

pub returns-then-are_numbers_within : goal.returns-then-are_numbers_within
returns-then-are_numbers_within c =
    let least = to_z-of_z w64 c.args.least c.ranges.least in
    let most = to_z-of_z w64 c.args.most c.ranges.most in
    let h = c.if-are_numbers_within.true in
    let e = c.are_numbers_within.ensures in
    taken c.args.least c.args.most c.args.place c.args.when.now c.args.bars c.requires.trigger (cc) c.requires.normal

pub returns-else-are_numbers_within : goal.returns-else-are_numbers_within
returns-else-are_numbers_within c =
    let least = to_z-of_z w64 c.args.least c.ranges.least in
    let most = to_z-of_z w64 c.args.most c.ranges.most in
    let h = c.if-are_numbers_within.false in
    let e = c.are_numbers_within.ensures in
    out_of_bounds c.args.least c.args.most c.args.place c.args.when.now c.requires.trigger (cc)
