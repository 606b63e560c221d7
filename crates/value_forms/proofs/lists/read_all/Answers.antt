use Rattle.std.proofs.Common.{arith}
use Rattle.std.proofs.lemmas.Result.{err_from_is_err_and}
use Rattle.value_forms.proofs.Items.{reads_on, reads_none, reads_all}
use Rattle.value_forms.proofs.lists.read_all.Goals as goal

pub returns-in_err-read : goal.returns-in_err-read
returns-in_err-read g c =
    let p = err_from_is_err_and c.from_residual-in_err-read.result c.from_residual-in_err-read.ensures.1 in
    rw (p.1, p.2) (reads_none g.T.Stored.form.of c.args.values.now c.loop-value.value-index c.value-item.result (omega arith) c.value-item.is c.in_err-read.field-0.0 c.loop-value.items.items _ c.in_err-read.ensures c.loop-value.invariant)

pub loop-value-preserved : goal.loop-value-preserved
loop-value-preserved g c =
    rw c.in_ok-push.ensures.items (reads_on g.T.Stored.form.of c.args.values.now c.loop-value.value-index c.value-item.result (omega arith) c.value-item.is c.loop-value.items.items c.in_ok-read.field-0 _ c.in_ok-read.ensures c.loop-value.invariant)

pub returns : goal.returns
returns g c = rw c.from_vec.ensures (reads_all g.T.Stored.form.of c.args.values.now c.loop-value.value-index c.loop-value.items.items _ (omega arith) c.loop-value.invariant)
