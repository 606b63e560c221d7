use Rattle.std.proofs.Common.{◌≡◌, ◌++◌, drop, map}
use Rattle.std.specs.List.{flat_map}
use Rattle.plan_drawing.specs.Labels.{bar_line, line_break}
use Rattle.plan_drawing.proofs.lines.push_bars.Given as goal

-- what is written and what is left are all lines
abbrev pub invariant-loop-bar : goal.invariant-loop-bar
invariant-loop-bar l =
    l.out ++ flat_map (λ line. line_break ++ line) (map (bar_line l.words) (drop l.bar-index l.bars))
    ≡ l.fn.out ++ flat_map (λ line. line_break ++ line) (map (bar_line l.words) l.bars)
