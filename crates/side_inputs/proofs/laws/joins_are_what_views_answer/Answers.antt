use Rattle.std.proofs.Common.{refl}
use Rattle.beam_values.specs.declared.value.Value.TheViews.{out-roll-Value}
use Rattle.side_inputs.proofs.laws.joins_are_what_views_answer.Goals as goal

pub returns-clause-find : goal.returns-clause-find
returns-clause-find c views key part all = rw all (simp out-roll-Value refl)
