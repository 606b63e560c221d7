use Rattle.std.proofs.Common.{◌≡◌, ◌++◌, drop}
use Rattle.std.specs.List.{flat_map}
use Rattle.beam_model.specs.Rendering.{log_lines}
use Rattle.beam_text.specs.Parts.{logs_in}
use Rattle.beam_text.proofs.logs.push_sorted_logs.Given as goal

-- what is written and what is left are the whole text
abbrev pub invariant-loop-log : goal.invariant-loop-log
invariant-loop-log l = l.out ++ flat_map log_lines (logs_in (drop l.log-index l.logs)) ≡ l.fn.out ++ flat_map log_lines (logs_in l.logs)
