use Rattle.std.proofs.Common.{rules}
use Rattle.cell_index.specs.Leads.{lead_of}
use Rattle.cell_index.proofs.index_key.lead_of.Goals as goal

pub returns : goal.returns
unfolding lead_of
returns c = search rules
