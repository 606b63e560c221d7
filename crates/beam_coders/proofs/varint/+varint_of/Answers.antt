use Rattle.std.proofs.Common.{◌^◌, ◌∙◌, sym, arith, ltb-true}
use Rattle.std.proofs.lemmas.List.{nil_from_length}
use Rattle.std.proofs.lemmas.Result.{err_from_is_err_and}
use Rattle.beam_coders.proofs.VarintReading.{read_none, read_last, read_wide, read_long, read_more, read_unneeded, read_refused, joined_small, within_64}
use Rattle.beam_coders.proofs.varint.+varint_of.Goals as goal

pub returns-in_default-clause-exact : goal.returns-in_default-clause-exact
returns-in_default-clause-exact t c = read_none c.args.bits c.args.bytes.now (nil_from_length c.args.bytes.now c.in_default.ensures.cases)

pub returns-then-not-fits-clause-exact : goal.returns-then-not-fits-clause-exact
returns-then-not-fits-clause-exact t c = read_wide c.args.bits c.in-Some.byte.now c.args.bytes.now c.in-Some.rest.now c.in-Some.ensures.cases.0 c.if-byte-lt128.true (sym c.fits.ensures ∙ c.if-not-fits.true)

pub returns-then-byte-lt128-clause-exact : goal.returns-then-byte-lt128-clause-exact
returns-then-byte-lt128-clause-exact t c = read_last c.args.bits c.in-Some.byte.now c.args.bytes.now c.in-Some.rest.now c.in-Some.ensures.cases.0 c.if-byte-lt128.true (sym c.fits.ensures ∙ c.if-not-fits.false)

pub returns-then-bits-le7-clause-exact : goal.returns-then-bits-le7-clause-exact
returns-then-bits-le7-clause-exact t c = read_long c.args.bits c.in-Some.byte.now c.args.bytes.now c.in-Some.rest.now c.in-Some.ensures.cases.0 c.if-byte-lt128.false c.if-bits-le7.true

pub returns-in_err-above-clause-exact : goal.returns-in_err-above-clause-exact
returns-in_err-above-clause-exact t c =
    let p = err_from_is_err_and c.from_residual.result c.from_residual.ensures.1 in
    rw (p.1, p.2) (read_refused c.args.bits c.in-Some.byte.now c.args.bytes.now c.in-Some.rest.now c.in_err-above.field-0.0 c.in-Some.ensures.cases.0 c.if-byte-lt128.false c.if-bits-le7.false c.in_err-above.ensures.exact)

pub returns-in-0-clause-exact : goal.returns-in-0-clause-exact
returns-in-0-clause-exact t c =
    read_unneeded c.args.bits c.in-Some.byte.now c.in_ok-above.above c.args.bytes.now c.in-Some.rest.now c.in_ok-above.rest.now c.in-Some.ensures.cases.0 c.if-byte-lt128.false c.if-bits-le7.false c.in_ok-above.ensures.exact c.in-0.is

pub overflow_mul-result : goal.overflow_mul-result
overflow_mul-result t c = omega (arith, joined_small c.args.bits c.in-Some.byte.now c.in_ok-above.above c.if-bits-le7.false c.in_ok-above.ensures.small, within_64 c.args.bits c.requires)

pub overflow_add-result : goal.overflow_add-result
overflow_add-result t c = omega (arith, joined_small c.args.bits c.in-Some.byte.now c.in_ok-above.above c.if-bits-le7.false c.in_ok-above.ensures.small, within_64 c.args.bits c.requires)

pub returns-in_default-above-clause-small : goal.returns-in_default-above-clause-small
returns-in_default-above-clause-small t c = joined_small c.args.bits c.in-Some.byte.now c.in_ok-above.above c.if-bits-le7.false c.in_ok-above.ensures.small

pub returns-in_default-above-clause-exact : goal.returns-in_default-above-clause-exact
returns-in_default-above-clause-exact t c =
    read_more c.args.bits c.in-Some.byte.now c.in_ok-above.above c.args.bytes.now c.in-Some.rest.now c.in_ok-above.rest.now c.in-Some.ensures.cases.0 c.if-byte-lt128.false c.if-bits-le7.false c.in_ok-above.ensures.exact (omega arith)

pub returns-then-byte-lt128-clause-small : goal.returns-then-byte-lt128-clause-small
returns-then-byte-lt128-clause-small t c = ltb-true c.in-Some.byte.now (2 ^ c.args.bits) (sym c.fits.ensures ∙ c.if-not-fits.false)
