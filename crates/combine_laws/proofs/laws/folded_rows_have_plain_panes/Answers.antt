use Rattle.combine_laws.proofs.Panes.{panes_grouped}
use Rattle.combine_laws.proofs.laws.folded_rows_have_plain_panes.Goals as goal

pub returns : goal.returns
returns c = panes_grouped
