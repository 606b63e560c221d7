use Rattle.std.proofs.Common.{◌≡◌, map, take}
use Rattle.group_cells.specs.Plain.{opened_all_at, opening_of}
use Rattle.group_cells.proofs.plain.placing.open_all.Given as goal

abbrev pub invariant-loop-span : goal.invariant-loop-span
invariant-loop-span l = l.cells.items ≡ opened_all_at l.rules l.before l.node (map (opening_of l.key) (take l.span-index l.windows)) l.fn.cells.items
