use Rattle.dofn_library.proofs.JoinedParts.{gives_all, join_list_gives, lacks_memory, parts_found}
use Rattle.dofn_library.proofs.work.sides.JoinListElementWork.give.Goals as goal

pub returns-in_err-join_all : goal.returns-in_err-join_all
returns-in_err-join_all c =
    let found = parts_found c.sides_of.result c.in_ok-parts.parts _ c.in_ok-parts.ensures.value c.sides_of.ensures in
    lacks_memory _ _ _ _ _ (join_list_gives c.args.e.now c.in_ok-parts.parts.now found) c.from_residual-in_err-join_all.ensures

pub returns : goal.returns
returns c =
    let found = parts_found c.sides_of.result c.in_ok-parts.parts _ c.in_ok-parts.ensures.value c.sides_of.ensures in
    gives_all _ _ _ _ (join_list_gives c.args.e.now c.in_ok-parts.parts.now found) c.in_ok-join_all.ensures
