use Rattle.std.proofs.Common.{List, sym, subst, true, ◌≡◌}
use Rattle.std.specs.List.{All}
use Rattle.beam_values.specs.Nodes.{is_group}
use Rattle.beam_values.specs.declared.arrival.Arrival.{Arrival}
use Rattle.group_cells.proofs.PlainRounds.{taken_at_groups}
use Rattle.group_cells.proofs.plain.next_cells.Goals as goal

pub place_all-requires-clause-groups : goal.place_all-requires-clause-groups
place_all-requires-clause-groups c =
    subst (λ (l : List Arrival). All (λ arrival. is_group c.args.plan.now arrival.node ≡ true) l) (sym c.in_ok-taken.ensures) (taken_at_groups c.args.plan.now _ c.args.arrivals.now)
