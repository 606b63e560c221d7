use Rattle.std.proofs.Common.{◌≡◌, map, take}
use Rattle.group_cells.proofs.groups.fired.flags_of.Given as goal

abbrev pub invariant-loop-entry : goal.invariant-loop-entry
invariant-loop-entry l = l.flags.items ≡ map (λ entry. entry.shown) (take l.entry-index l.entries)
