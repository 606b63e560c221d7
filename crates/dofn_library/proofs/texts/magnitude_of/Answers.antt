use Rattle.std.proofs.Common.{arith}
use Rattle.dofn_library.proofs.Digits.{below_eighteen}
use Rattle.dofn_library.proofs.texts.magnitude_of.Goals as goal

-- before a digit there are at most eighteen
pub overflow_mul-value : goal.overflow_mul-value
overflow_mul-value c =
    omega (arith, below_eighteen c.loop-digit.value c.loop-digit.digit-index c.loop-digit.invariant.small (omega arith))

pub overflow_add-value : goal.overflow_add-value
overflow_add-value c =
    omega (arith, below_eighteen c.loop-digit.value c.loop-digit.digit-index c.loop-digit.invariant.small (omega arith))
