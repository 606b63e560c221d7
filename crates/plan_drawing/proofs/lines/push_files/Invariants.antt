use Rattle.std.proofs.Common.{◌≡◌, ◌++◌, drop, map}
use Rattle.std.specs.List.{flat_map}
use Rattle.plan_drawing.specs.Labels.{file_line, line_break}
use Rattle.plan_drawing.proofs.lines.push_files.Given as goal

-- what is written and what is left are all lines
abbrev pub invariant-loop-file : goal.invariant-loop-file
invariant-loop-file l =
    l.out ++ flat_map (λ line. line_break ++ line) (map file_line (drop l.file-index l.files))
    ≡ l.fn.out ++ flat_map (λ line. line_break ++ line) (map file_line l.files)
