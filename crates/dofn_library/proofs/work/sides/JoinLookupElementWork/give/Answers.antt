use Rattle.dofn_library.proofs.JoinedParts.{gives_all, is_poison, join_lookup_gives, lacks_memory, no_lookup_of_mains, no_lookup_of_views, parts_found}
use Rattle.dofn_library.proofs.work.sides.JoinLookupElementWork.give.Goals as goal
use Rattle.dofn_library.proofs.work.sides.JoinLookupElementWork.give.Goals.{then-not-are_pairs-via-then-not-are_pairs, then-not-are_pairs-via-else-not-are_pairs+then-not-are_pairs-2}

pub returns-then-not-are_pairs : goal.returns-then-not-are_pairs
returns-then-not-are_pairs c =
    let found = parts_found c.sides_of.result c.in_ok-parts.parts _ c.in_ok-parts.ensures.value c.sides_of.ensures in
    elim c.then-not-are_pairs.branch [
      | then-not-are_pairs-via-then-not-are_pairs w ↦ is_poison _ _ _ (no_lookup_of_views c.args.e.now c.in_ok-parts.parts.now found w.if-not-are_pairs.ensures)
      | then-not-are_pairs-via-else-not-are_pairs+then-not-are_pairs-2 w ↦ is_poison _ _ _ (no_lookup_of_mains c.args.e.now c.in_ok-parts.parts.now found w.if-not-are_pairs-2.ensures)
    ]

pub returns-in_err-look_up : goal.returns-in_err-look_up
returns-in_err-look_up c =
    let found = parts_found c.sides_of.result c.in_ok-parts.parts _ c.in_ok-parts.ensures.value c.sides_of.ensures in
    lacks_memory _ _ _ _ _ (join_lookup_gives c.args.e.now c.in_ok-parts.parts.now found c.if-not-are_pairs.ensures c.if-not-are_pairs-2.ensures) c.from_residual-in_err-look_up.ensures

pub returns : goal.returns
returns c =
    let found = parts_found c.sides_of.result c.in_ok-parts.parts _ c.in_ok-parts.ensures.value c.sides_of.ensures in
    gives_all _ _ _ _ (join_lookup_gives c.args.e.now c.in_ok-parts.parts.now found c.if-not-are_pairs.ensures c.if-not-are_pairs-2.ensures) c.in_ok-look_up.ensures
