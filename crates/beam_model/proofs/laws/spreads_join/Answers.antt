use Rattle.beam_values.proofs.Spreads.{spread-join}
use Rattle.beam_model.specs.Spread.{outputs_at}
use Rattle.beam_model.proofs.laws.spreads_join.Goals as goal

pub returns : goal.returns
returns c plan item = spread-join (outputs_at plan item)
