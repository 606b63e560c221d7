use Rattle.std.proofs.Common.{None, sym, ◌∙◌, arith}
use Rattle.std.proofs.lemmas.List.{get_or_read}
use Rattle.timer_core.proofs.FirstSoFar.{first_step}
use Rattle.timer_core.proofs.timers.Timers.first.Goals as goal

pub loop-name-preserved : goal.loop-name-preserved
loop-name-preserved c =
    let read = c.index-times-name in
    first_step c.self.inside.times c.loop-name.name c.loop-name.first c.earlier-first.result _ c.loop-name.invariant c.earlier-first.ensures
    (sym read.is ∙ get_or_read c.self.inside.times c.loop-name.name read.result (omega arith) read.is None)
