use Rattle.std.proofs.Common.{◌≡◌, take}
use Rattle.std.specs.List.{filter}
use Rattle.beam_model.specs.Rendering.{is_printed}
use Rattle.beam_text.specs.Parts.{logs_in}
use Rattle.beam_text.proofs.logs.printed_logs.Given as goal

abbrev pub invariant-loop-log : goal.invariant-loop-log
invariant-loop-log l = logs_in l.printed.items ≡ filter (is_printed l.plan) (take l.log-index l.logs)
