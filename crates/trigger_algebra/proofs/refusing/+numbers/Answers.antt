use Rattle.std.proofs.Common.{w64, sym}
use Rattle.std.proofs.lemmas.Int.{to_z-of_z}
use Rattle.std.proofs.lemmas.List.Folds.{list_all_at}
use Rattle.trigger_algebra.specs.Refusing.{are_numbers_within}
use Rattle.trigger_algebra.proofs.Trees.{numbers_in_list}
use Rattle.trigger_algebra.proofs.refusing.+numbers.Goals as goal

pub are_numbers_within-returns-in-First : goal.are_numbers_within-returns-in-First
are_numbers_within-returns-in-First t c =
    let whole = numbers_in_list c.args.least c.args.most c.in-First.trees c.args.when.now c.in-First.is in
    let least = to_z-of_z w64 c.args.least c.ranges.least in
    let most = to_z-of_z w64 c.args.most c.ranges.most in
    cc

pub are_all_numbers_within-returns-then-not-are_numbers_within : goal.are_all_numbers_within-returns-then-not-are_numbers_within
are_all_numbers_within-returns-then-not-are_numbers_within t c =
    let least = to_z-of_z w64 c.args.least c.ranges.least in
    let most = to_z-of_z w64 c.args.most c.ranges.most in
    let item = c.tree-item.is in
    sym (list_all_at (are_numbers_within c.args.least c.args.most) c.args.trees.now c.loop-tree.tree-index c.tree-item.result c.loop-tree-test.true
    (let h = c.if-not-are_numbers_within.true in let e = c.are_numbers_within.ensures in cc))
