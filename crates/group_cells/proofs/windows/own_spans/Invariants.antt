use Rattle.std.proofs.Common.{◌≡◌, map, take}
use Rattle.group_cells.proofs.windows.own_spans.Given as goal

abbrev pub invariant-loop-element : goal.invariant-loop-element
invariant-loop-element l = l.spans ≡ map (λ e. e.span) (take l.element-index l.own)
