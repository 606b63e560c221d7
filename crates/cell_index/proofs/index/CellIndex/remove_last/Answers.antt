use Rattle.std.proofs.Common.{Some, sym, ◌∙◌, ap, refl}
use Rattle.std.proofs.lemmas.Bool.{false≢true}
use Rattle.cell_index.proofs.Indexing.{index_before, index_less}
use Rattle.cell_index.proofs.index.CellIndex.remove_last.Goals as goal

pub returns-then-is_at : goal.returns-then-is_at
returns-then-is_at c = λ cells cell h at nodes keys spans.
    index_less c.args.self.now (record { places = c.remove.new.self; guesses = c.forget.new.self }) c.args.key.now cells cell h nodes keys spans c.forget.ensures
    (c.is_at.ensures.there c.if-is_at.true ∙ ap (λ n. Some n) at) c.remove.ensures.updates

pub returns-else-is_at : goal.returns-else-is_at
returns-else-is_at c = λ cells cell h at nodes keys spans.
    index_before c.args.self.now (record { places = c.args.self.now.places; guesses = c.forget.new.self }) c.args.key.now cells cell h nodes keys spans c.forget.ensures
    (λ found. false≢true (sym c.if-is_at.false ∙ c.is_at.ensures.whole (found ∙ ap (λ n. Some n) (sym at)))) refl
