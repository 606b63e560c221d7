use Rattle.beam_values.specs.Spelling.{spelling}
use Rattle.beam_values.proofs.Lexicographic.{split_same}
use Rattle.beam_values.proofs.Spellings.{values_decide}
use Rattle.beam_values.proofs.laws.no_spelling_begins_another.Goals as goal

pub returns : goal.returns
returns c s t = split_same (spelling c.args.a.now) (spelling c.args.b.now) s t (values_decide c.args.a.now c.args.b.now)
