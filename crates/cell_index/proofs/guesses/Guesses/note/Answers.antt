use Rattle.std.proofs.lemmas.List.Elements.{All-set}
use Rattle.cell_index.specs.Indexes.{IsOfKey}
use Rattle.cell_index.proofs.guesses.Guesses.note.Goals as goal

pub returns-then-at-len : goal.returns-then-at-len
returns-then-at-len c = λ places all own. All-set (IsOfKey places) c.args.self.now.slots.items c.slot_for-at.result c.args.guess own all
