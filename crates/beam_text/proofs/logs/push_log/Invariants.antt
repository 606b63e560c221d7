use Rattle.std.proofs.Common.{◌≡◌, ◌++◌, drop}
use Rattle.std.specs.List.{flat_map}
use Rattle.beam_model.specs.Rendering.{log_line}
use Rattle.beam_text.proofs.logs.push_log.Given as goal

-- what is written and what is left are the whole text
abbrev pub invariant-loop-entry : goal.invariant-loop-entry
invariant-loop-entry l = l.out ++ flat_map (log_line l.log) (drop l.entry-index l.entry-items) ≡ l.fn.out ++ flat_map (log_line l.log) l.entry-items
