use Rattle.std.proofs.Common.{◌∙◌, ap, sym, subst}
use Rattle.std.specs.Prelude.{IfSome}
use Rattle.std.specs.List.{list_all}
use Rattle.std.specs.List.Sorted.{IsSorted}
use Rattle.beam_values.specs.Orders.{value_cmp}
use Rattle.beam_model.specs.Functions.{ascending, is_pair, view_values}
use Rattle.beam_model.proofs.Ascending.{ascending_sorted}
use Rattle.dofn_library.specs.Sides.{IsAllFound}
use Rattle.dofn_library.proofs.JoinedParts.{sorted_pairs}
use Rattle.dofn_library.proofs.work.sides.look_up.Goals as goal

pub push_found-requires-clause-ascending : goal.push_found-requires-clause-ascending
push_found-requires-clause-ascending c =
    let sorted = c.as_slice.ensures ∙ c.in_ok-views.ensures ∙ ap ascending c.in_ok-copy_views.ensures in
    subst (IsSorted value_cmp) (sym sorted) (ascending_sorted (view_values c.args.parts.now))

pub push_found-requires-clause-pairs : goal.push_found-requires-clause-pairs
push_found-requires-clause-pairs c =
    let sorted = c.as_slice.ensures ∙ c.in_ok-views.ensures ∙ ap ascending c.in_ok-copy_views.ensures in
    ap (list_all is_pair) sorted ∙ sorted_pairs c.args.parts.now c.requires

pub push_found-requires-clause-last : goal.push_found-requires-clause-last
push_found-requires-clause-last c =
    let sorted = c.as_slice.ensures ∙ c.in_ok-views.ensures ∙ ap ascending c.in_ok-copy_views.ensures in
    subst (λ views. IfSome c.loop-part.last (λ found. IsAllFound views found.key found.part)) (sym sorted) c.loop-part.invariant.1
