use Rattle.std.proofs.Common.{◌∙◌}
use Rattle.group_cells.proofs.WindowSessions.{key_test}
use Rattle.group_cells.proofs.windows.is_same_key.Goals as goal

pub returns : goal.returns
returns c = c.eq.ensures ∙ key_test c.args.a.now c.args.b.now c.cmp_values.result c.cmp_values.ensures.order
