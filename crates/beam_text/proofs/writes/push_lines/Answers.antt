use Rattle.std.proofs.lemmas.Result.{on_ok_weaker}
use Rattle.beam_text.proofs.Sorts.{adds_lines}
use Rattle.beam_text.proofs.writes.push_lines.Goals as goal

pub returns : goal.returns
returns c =
    let given = c.args.elements.now.items in
    let sorted = c.sort_elements.new.elements.items in
    let ordered = c.in_ok-sort_elements.ensures in
    on_ok_weaker c.push_sorted.result
    (adds_lines given sorted c.as_slice.result.now c.args.out.now c.push_sorted.new.out ordered.moved ordered.sorted c.as_slice.ensures.value)
    c.push_sorted.ensures
