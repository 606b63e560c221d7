use Rattle.std.proofs.Common.{rules}
use Rattle.cell_index.specs.Leads.{with_word}
use Rattle.cell_index.proofs.index_key.with_word.Goals as goal

pub returns : goal.returns
unfolding with_word
returns c = search rules
