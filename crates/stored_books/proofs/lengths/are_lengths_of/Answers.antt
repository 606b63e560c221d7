use Rattle.std.proofs.Common.{length, eq-eqb, eqb-true, ap, arith}
use Rattle.stored_books.proofs.OwnLengths.{nodes_all}
use Rattle.stored_books.proofs.lengths.are_lengths_of.Goals as goal

pub returns : goal.returns
returns c =
    let files = c.args.files.now in
    let nodes = c.args.plan.now.nodes in
    let at = c.loop-number.at in
    let all = nodes_all nodes files c.loop-number.number at (omega (arith, ap length c.as_slice-node-items.ensures)) c.loop-number.invariant in
    (λ same. all.1 (eqb-true at (length files) same), λ h. eq-eqb at (length files) (all.0 h))
