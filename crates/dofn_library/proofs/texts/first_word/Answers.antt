use Rattle.std.proofs.Common.{◌∙◌, length, ap, arith}
use Rattle.std.specs.Prelude.{unwrap_or}
use Rattle.dofn_library.proofs.Words.{no_word, a_word}
use Rattle.dofn_library.proofs.texts.first_word.Goals as goal

pub returns-in_err-start-clause-found : goal.returns-in_err-start-clause-found
returns-in_err-start-clause-found c = rw c.from_residual.ensures (no_word c.args.text.now c.in_err-start.ensures)

pub returns-clause-found : goal.returns-clause-found
returns-clause-found c =
    let ends = c.unwrap_or-len.ensures ∙ ap (λ end. unwrap_or end (length c.split_at.result.1.now)) c.word_end.ensures in
    let found = a_word c.args.text.now c.split_at.result.1.now c.in_ok-start.start c.unwrap_or-len.result c.in_ok-start.ensures c.split_at.ensures.back ends in
    rw (c.split_at-2.ensures.front, c.split_at-2.ensures.back) found.0

pub returns-clause-shorter : goal.returns-clause-shorter
returns-clause-shorter c =
    let ends = c.unwrap_or-len.ensures ∙ ap (λ end. unwrap_or end (length c.split_at.result.1.now)) c.word_end.ensures in
    let found = a_word c.args.text.now c.split_at.result.1.now c.in_ok-start.start c.unwrap_or-len.result c.in_ok-start.ensures c.split_at.ensures.back ends in
    omega (arith, found.1)
