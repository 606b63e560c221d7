use Rattle.combine_laws.proofs.Folding.{pane_brings}
use Rattle.combine_laws.proofs.laws.panes_bring_what_their_folds_do.Goals as goal

pub returns : goal.returns
returns c = pane_brings
