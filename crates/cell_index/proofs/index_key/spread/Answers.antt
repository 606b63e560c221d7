use Rattle.std.proofs.Common.{rules}
use Rattle.cell_index.specs.Leads.{spread}
use Rattle.cell_index.proofs.index_key.spread.Goals as goal

pub returns : goal.returns
unfolding spread
returns c = search rules
