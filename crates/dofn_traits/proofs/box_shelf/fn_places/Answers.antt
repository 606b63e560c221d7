use Rattle.std.proofs.Common.{arith}
use Rattle.dofn_traits.proofs.Numberings.{fn_numbering}
use Rattle.dofn_traits.proofs.Shelving.{has_each, lacks_one}
use Rattle.dofn_traits.proofs.box_shelf.fn_places.Goals as goal

pub returns-in_err-places-clause-missing : goal.returns-in_err-places-clause-missing
returns-in_err-places-clause-missing g c =
    rw c.from_residual.ensures (lacks_one _ _ _ _ fn_numbering c.args.fns.now c.loop-number.number (omega arith) c.in_err-places.ensures)

pub returns-clause-complete : goal.returns-clause-complete
returns-clause-complete g c = has_each _ _ _ _ fn_numbering c.args.fns.now c.loop-number.places
    (record { size = c.loop-number.invariant.size; placed = λ n below. c.loop-number.invariant.placed n (omega arith) })
