use Rattle.std.proofs.Common.{◌∙◌, ap, ap₂, add-one, refl, sym}
use Rattle.cell_index.specs.Leads.{spread, with_word, words_hash}
use Rattle.cell_index.proofs.index_key.hash_of_bytes.Goals as goal

pub loop-at-init : goal.loop-at-init
loop-at-init c = refl

pub loop-at-preserved : goal.loop-at-preserved
loop-at-preserved c =
    c.with_word-hash.ensures ∙ ap₂ with_word (c.spread.ensures ∙ ap spread c.loop-at.invariant) c.word_at.ensures
    ∙ sym (ap (words_hash c.args.bytes.now) (add-one c.loop-at.at))
