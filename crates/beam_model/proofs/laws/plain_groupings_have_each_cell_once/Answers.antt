use Rattle.beam_model.proofs.Groupings.{cells_once, cells_held}
use Rattle.beam_model.proofs.laws.plain_groupings_have_each_cell_once.Goals as goal

pub returns : goal.returns
returns c = record { once = cells_once; held = cells_held }
