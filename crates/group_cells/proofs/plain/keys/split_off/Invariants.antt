use Rattle.std.proofs.Common.{◌≡◌, ◌++◌}
use Rattle.std.specs.Prelude.{not}
use Rattle.std.specs.List.{filter}
use Rattle.std.specs.Vec.Iter.{into_iter_items}
use Rattle.group_cells.specs.Commits.{elements_keyed}
use Rattle.group_cells.specs.Plain.{is_arrival_at}
use Rattle.group_cells.proofs.plain.keys.split_off.Given as goal

abbrev pub invariant-loop-arrival : goal.invariant-loop-arrival
invariant-loop-arrival l = record {
  whole : l.fn.arrivals ≡ l.yielded ++ into_iter_items l.arrival-iterator;
  own : l.own ≡ elements_keyed l.place.node l.place.key l.yielded;
  others : l.others ≡ filter (λ arrival. not (is_arrival_at l.place.node l.place.key arrival)) l.yielded;
}
