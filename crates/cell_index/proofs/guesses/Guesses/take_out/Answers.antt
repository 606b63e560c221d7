use Rattle.std.proofs.lemmas.List.Elements.{All-contains, All-set}
use Rattle.cell_index.specs.Indexes.{IsOfKey}
use Rattle.cell_index.proofs.Indexing.{no_key}
use Rattle.cell_index.proofs.guesses.Guesses.take_out.Goals as goal

pub returns-clause-taken : goal.returns-clause-taken
returns-clause-taken c = λ places all. All-contains (IsOfKey places) c.args.self.now.slots.items c.in_ok-guess.guess all c.in_ok-guess.ensures

pub returns-clause-left : goal.returns-clause-left
returns-clause-left c = λ places all. All-set (IsOfKey places) c.args.self.now.slots.items c.args.slot (record { hash = 0; place = 0 }) (no_key places) all
