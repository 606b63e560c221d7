use Rattle.beam_model.proofs.Ascending.{ascending_sorted, ascending_same}
use Rattle.beam_model.proofs.laws.ascending_is_sorted.Goals as goal

pub returns : goal.returns
returns c = record { sorted = ascending_sorted; same = ascending_same }
