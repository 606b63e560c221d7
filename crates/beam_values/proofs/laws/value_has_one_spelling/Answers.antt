use Rattle.beam_values.proofs.OneSpelling.{one_spelling}
use Rattle.beam_values.proofs.laws.value_has_one_spelling.Goals as goal

pub returns : goal.returns
returns c = one_spelling c.args.value.now
