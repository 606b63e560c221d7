use Rattle.std.proofs.Common.{◌∙◌, arith}
use Rattle.sdf_library.proofs.Views.{ended_at_next}
use Rattle.sdf_library.proofs.lines.is_ended.Goals as goal

pub returns-then-next-gt0 : goal.returns-then-next-gt0
returns-then-next-gt0 c = c.starts_line.ensures ∙ ended_at_next c.args.rest.now c.args.next c.requires (omega arith)
