use Rattle.std.proofs.lemmas.Option.{IfSome_then}
use Rattle.cell_index.proofs.Indexing.{guess_found}
use Rattle.cell_index.proofs.index.CellIndex.guess.Goals as goal

pub returns : goal.returns
returns c = λ cells h. IfSome_then c.place.result c.place.ensures (λ place there. guess_found c.args.self.now c.hash_with.result place c.hash_with.ensures there cells h)
