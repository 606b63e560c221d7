use Rattle.std.proofs.Common.{◌≡◌, ℕ, ◌+◌, ◌-◌, ◌≤◌, Some, None, nat_le, true, false, Bool, length, take, get_or, refl, ◌∙◌, arith}
use Rattle.std.specs.Prelude.{if◌then◌else◌}
use Rattle.std.specs.List.{flat_map}
use Rattle.std.proofs.lemmas.Bool.Decides.{nat_tests}
use Rattle.std.proofs.lemmas.List.Folds.{length-flat_map-take}
use Rattle.trigger_algebra.specs.Refusing.{counts_of, leaves}
use Rattle.trigger_algebra.proofs.Trees.{counts_of_list}
use Rattle.trigger_algebra.proofs.refusing.+leaves.Goals as goal

pub leaves_left-returns-in-First : goal.leaves_left-returns-in-First
leaves_left-returns-in-First t c =
    let whole = counts_of_list c.in-First.trees c.args.when.now c.in-First.is in
    let same = c.as_slice.ensures in
    let e = c.all_leaves_left.ensures in
    cc

-- a tree with more leaves than may come
none_left : (left rest before more all : ℕ) → rest + before ≡ left → before + more ≤ all → nat_le more rest ≡ false → None ≡ (if nat_le all left then Some (left - all) else None)
none_left left rest before more all sum within over =
    let beyond : nat_le all left ≡ false = grind (arith, nat_tests) in
    rw beyond refl

is_over : (within : Bool) (n : ℕ) → None ≡ (if within then Some n else None) → within ≡ false
is_over true n e = absurd cc
is_over false n e = refl

pub all_leaves_left-returns-in_err-left : goal.all_leaves_left-returns-in_err-left
all_leaves_left-returns-in_err-left t c =
    let item = c.tree-item.is in
    let over = is_over (nat_le (leaves c.tree-item.result) c.loop-tree.left) (c.loop-tree.left - leaves c.tree-item.result) c.in_err-left.ensures in
    let within = length-flat_map-take counts_of c.args.trees.now c.loop-tree.tree-index c.tree-item.result c.loop-tree-test.true in
    c.from_residual.ensures
    ∙ none_left c.args.left c.loop-tree.left (length (flat_map counts_of (take c.loop-tree.tree-index c.args.trees.now)))
    (leaves (get_or c.args.trees.now c.loop-tree.tree-index c.tree-item.result)) (length (flat_map counts_of c.args.trees.now))
    c.loop-tree.invariant within (cc (over, item))
