use Rattle.std.proofs.Common.{rules}
use Rattle.cell_index.specs.Leads.{word_at}
use Rattle.cell_index.proofs.index_key.word_at.Goals as goal

pub returns : goal.returns
unfolding word_at
returns c = search rules
