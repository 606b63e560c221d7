use Rattle.beam_text.proofs.PlainBytes.{more_plain, wholly_plain}
use Rattle.beam_text.proofs.value.each_is_plain.Goals as goal

pub loop-byte-preserved : goal.loop-byte-preserved
loop-byte-preserved c =
    more_plain c.loop-byte.any c.is_escaped-any.result c.args.bytes.now c.loop-byte.byte-index c.loop-byte-test.true c.is_escaped-any.ensures
    c.loop-byte.invariant

pub returns : goal.returns
returns c = wholly_plain c.loop-byte.any c.args.bytes.now c.loop-byte.byte-index c.loop-byte-test.false c.loop-byte.invariant
