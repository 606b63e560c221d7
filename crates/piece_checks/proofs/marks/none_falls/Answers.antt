use Rattle.std.proofs.Common.{refl, arith}
use Rattle.piece_checks.proofs.MarkTests.{all_rise}
use Rattle.piece_checks.proofs.marks.none_falls.Goals as goal

pub returns : goal.returns
returns c = (λ yes. all_rise c.args.before.now c.args.after.now c.loop-n.n (omega arith) c.requires c.loop-n.invariant, λ none. refl)
