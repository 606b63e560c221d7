use Rattle.std.proofs.Common.{◌≡◌, ◌++◌, map, take}
use Rattle.group_cells.proofs.groups.standing.push_spans.Given as goal

abbrev pub invariant-loop-window : goal.invariant-loop-window
invariant-loop-window l = l.near ≡ l.fn.near ++ map (λ window. window.span) (take l.window-index l.met)
