use Rattle.std.proofs.Common.{◌∙◌, refl}
use Rattle.trigger_algebra.proofs.Trees.{empty_in_list, no_empty_here}
use Rattle.trigger_algebra.proofs.refusing.+empties.Goals as goal

pub has_empty-returns-else-is_empty : goal.has_empty-returns-else-is_empty
has_empty-returns-else-is_empty t c =
    let whole = empty_in_list c.in-First.trees c.args.when.now c.in-First.is in
    let some = no_empty_here c.in-First.trees c.is_empty.result c.if-is_empty.false c.is_empty.ensures.1 in
    let same = c.as_slice.ensures in
    let e = c.have_empty.ensures in
    e ∙ rw (same, whole, some) refl
