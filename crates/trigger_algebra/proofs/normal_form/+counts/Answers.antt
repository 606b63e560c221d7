use Rattle.trigger_algebra.proofs.Trees.{counts_of_list}
use Rattle.trigger_algebra.proofs.normal_form.+counts.Goals as goal

pub add_counts-returns-in-First : goal.add_counts-returns-in-First
add_counts-returns-in-First t c =
    let whole = counts_of_list c.in-First.trees c.args.when.now c.in-First.is in
    let same = c.as_slice.ensures in
    let e = c.add_all_counts.ensures in
    rw whole (rw same at e)
