use Rattle.std.proofs.Common.{ℕ, List, ◌++◌, codes, decimal, ap, ◌∙◌, append_assoc}
use Rattle.command_ends.proofs.notes.push_place.Goals as goal

pub returns : goal.returns
returns c =
    let node = codes "work fault: node " ++ decimal c.into.result in
    let item = codes " item " ++ decimal c.into-2.result in
    let said = c.in_ok-push_number-2.ensures ∙ ap (λ (t : List ℕ). t ++ item) c.in_ok-push_number.ensures ∙ append_assoc c.args.line.now node item in
    cc (said, c.into.ensures, c.into-2.ensures)
