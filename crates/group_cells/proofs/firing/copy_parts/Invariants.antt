use Rattle.std.proofs.Common.{◌≡◌, map, take}
use Rattle.std.specs.List.{filter}
use Rattle.beam_values.specs.Grouping.{part_of}
use Rattle.group_cells.specs.Firings.{is_held}
use Rattle.group_cells.proofs.firing.copy_parts.Given as goal

abbrev pub invariant-loop-entry : goal.invariant-loop-entry
invariant-loop-entry l = l.parts.items ≡ map (λ entry. part_of entry.element) (filter (is_held l.mode) (take l.entry-index l.entries))
