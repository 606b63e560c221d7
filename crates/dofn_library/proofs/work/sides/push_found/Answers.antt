use Rattle.dofn_library.proofs.JoinedParts.{found_joined}
use Rattle.dofn_library.proofs.work.sides.push_found.Goals as goal

pub returns-clause-out : goal.returns-clause-out
returns-clause-out c = λ all sorted.
    found_joined c.args.e.now all c.args.main.now c.get.result.now _ c.args.views.now c.in_ok-found.found.part c.in_ok-share.field-0 c.in_ok-share-2.field-0 c.args.out.now c.push_valued.new.out
    c.in-Some.ensures c.get.ensures c.in_ok-found.ensures.part sorted c.in_ok-share.ensures c.in_ok-share-2.ensures c.in_ok-push_valued.ensures
