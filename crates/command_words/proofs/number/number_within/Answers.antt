use Rattle.std.proofs.Common.{◌≡◌, arith, sym, ap, ◌∙◌, Some}
use Rattle.command_words.proofs.Numerals.{IsWithin, number_within-some, number_within-none}
use Rattle.command_words.specs.Numbers.{number_of_text}
use Rattle.command_words.proofs.number.number_within.Goals as goal

pub returns-in-Ok-clause-exact : goal.returns-in-Ok-clause-exact
returns-in-Ok-clause-exact c =
    let a = c.args in
    let number : c.in-Ok.number ≡ number_of_text a.word.now = c.in-Ok.ensures.value.0.1 in
    let within : IsWithin a.low a.high a.word.now = (c.in-Ok.ensures.value.0.0.0, (omega arith, omega arith)) in
    ap (λ n. Some n) number ∙ sym (number_within-some a.low a.high a.word.now within)

pub returns-in_default-3-clause-exact : goal.returns-in_default-3-clause-exact
returns-in_default-3-clause-exact c =
    let a = c.args in
    sym (number_within-none a.low a.high a.word.now (λ within. c.in_default.ensures.value.0 (within.0, omega (arith, within.1.1, c.ranges.high.fits))))
