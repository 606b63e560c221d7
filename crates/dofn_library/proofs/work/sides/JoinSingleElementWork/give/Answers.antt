use Rattle.std.proofs.Common.{[], append-nil, sym}
use Rattle.dofn_library.proofs.JoinedParts.{gives_all, is_poison, join_single_gives, lacks_memory, no_single, nothing_to_join, parts_found}
use Rattle.dofn_library.proofs.work.sides.JoinSingleElementWork.give.Goals as goal

pub returns-in_err-push_mains-in-Some : goal.returns-in_err-push_mains-in-Some
returns-in_err-push_mains-in-Some c =
    let found = parts_found c.sides_of.result c.in_ok-parts.parts _ c.in_ok-parts.ensures.value c.sides_of.ensures in
    lacks_memory _ _ _ _ _ (join_single_gives c.args.e.now c.in_ok-parts.parts.now c.in-Some.view.now found c.in-Some.ensures) c.from_residual-in_err-push_mains-in-Some.ensures

pub returns-in-None : goal.returns-in-None
returns-in-None c =
    let found = parts_found c.sides_of.result c.in_ok-parts.parts _ c.in_ok-parts.ensures.value c.sides_of.ensures in
    is_poison _ _ _ (no_single c.args.e.now c.in_ok-parts.parts.now found c.in-None.ensures c.if-has_mains.ensures)

pub returns-in_ok-push_mains-in-Some : goal.returns-in_ok-push_mains-in-Some
returns-in_ok-push_mains-in-Some c =
    let found = parts_found c.sides_of.result c.in_ok-parts.parts _ c.in_ok-parts.ensures.value c.sides_of.ensures in
    gives_all _ _ _ _ (join_single_gives c.args.e.now c.in_ok-parts.parts.now c.in-Some.view.now found c.in-Some.ensures) c.in_ok-push_mains-in-Some.ensures

pub returns-else-has_mains : goal.returns-else-has_mains
returns-else-has_mains c =
    let found = parts_found c.sides_of.result c.in_ok-parts.parts _ c.in_ok-parts.ensures.value c.sides_of.ensures in
    gives_all _ [] _ _ (nothing_to_join c.args.e.now c.in_ok-parts.parts.now found c.if-has_mains.ensures) (sym (append-nil c.args.out.now))
