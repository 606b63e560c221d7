use Rattle.std.proofs.Common.{ℤ, FitsSigned, w64, subst}
use Rattle.beam_values.proofs.OneSpelling.{one_element_spelling}
use Rattle.beam_values.proofs.laws.element_has_one_spelling.Goals as goal

pub returns : goal.returns
returns c bytes =
    let fits : ℤ → Type 0 = λ z. FitsSigned w64 z in
    one_element_spelling c.args.element.now bytes
    (subst fits c.ms-time.ensures.value (record { sfits = c.ms-time.type_inv }))
    (subst fits c.start-start.ensures.value (record { sfits = c.start-start.type_inv }))
    (subst fits c.end-end.ensures.value (record { sfits = c.end-end.type_inv }))
