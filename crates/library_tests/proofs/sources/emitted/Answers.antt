use Rattle.std.proofs.Common.{ap, ◌∙◌}
use Rattle.beam_values.specs.Checked.{reads_file}
use Rattle.library_tests.proofs.sources.emitted.Goals as goal

pub call-requires-clause-view : goal.call-requires-clause-view
call-requires-clause-view g c = c.in-Ok-look.ensures.serves.view _ _ (ap reads_file c.loop-p.invariant.work ∙ c.requires.reads)
