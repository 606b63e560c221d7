use Rattle.std.specs.Result.{is_ok}
use Rattle.cell_index.specs.Indexes.{IsOfKey}
use Rattle.cell_index.proofs.Indexing.{no_key, resized}
use Rattle.cell_index.proofs.guesses.Guesses.grow.Goals as goal

pub returns-then-is_ok : goal.returns-then-is_ok
returns-then-is_ok c = λ places all.
    c.spread.ensures places (resized (IsOfKey places) (is_ok c.resize.result) c.args.self.now.slots.items c.resize.new.self.items _ _ _ c.resize.ensures.items (no_key places) all)

pub returns-else-is_ok : goal.returns-else-is_ok
returns-else-is_ok c = λ places all.
    resized (IsOfKey places) (is_ok c.resize.result) c.args.self.now.slots.items c.resize.new.self.items _ _ _ c.resize.ensures.items (no_key places) all
