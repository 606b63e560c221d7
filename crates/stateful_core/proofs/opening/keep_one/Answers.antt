use Rattle.std.proofs.Common.{arith}
use Rattle.std.proofs.lemmas.Result.{on_ok_weaker}
use Rattle.stateful_core.proofs.Roomy.{kept_from, kept_none}
use Rattle.stateful_core.proofs.opening.keep_one.Goals as goal

pub returns-then-number-first-clause-ok : goal.returns-then-number-first-clause-ok
returns-then-number-first-clause-ok c = kept_none c.args.first c.args.number c.args.slots.now.items (λ at less e. omega (arith, e, c.if-number-first.true))

pub returns-then-at-len-clause-ok : goal.returns-then-at-len-clause-ok
returns-then-at-len-clause-ok c =
    on_ok_weaker c.keep_at.result
    (λ h. kept_from c.args.first c.args.number _ c.args.slots.now.items c.keep_at.new.slots.items (omega (arith, c.if-number-first.false)) h)
    c.keep_at.ensures.ok

pub returns-clause-ok : goal.returns-clause-ok
returns-clause-ok c = kept_none c.args.first c.args.number c.args.slots.now.items (λ at less e. omega (arith, e, less, c.if-number-first.false, c.if-at-len.false))
