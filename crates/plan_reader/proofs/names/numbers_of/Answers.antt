use Rattle.std.proofs.Common.{[], sym}
use Rattle.std.proofs.lemmas.Result.{err_from_is_err_and}
use Rattle.plan_reader.specs.Nodes.{number_of}
use Rattle.plan_reader.specs.Seen.{names_in}
use Rattle.plan_reader.proofs.Turns.{one_more_at, one_refused_at}
use Rattle.plan_reader.proofs.names.numbers_of.Goals as goal

pub returns-in_err-number_of : goal.returns-in_err-number_of
returns-in_err-number_of c =
    let p = err_from_is_err_and c.from_residual-in_err-number_of.result c.from_residual-in_err-number_of.ensures.1 in
    rw (p.1, p.2)
    (one_refused_at (λ name. name.now) (λ _ name. number_of (names_in c.args.names.now) c.args.place name) c.args.inputs.now c.loop-name.name-index
    c.loop-name.numbers.items (record { ref_ptr = (0, 0); now = [] }) c.in_err-number_of.field-0.0 c.loop-name-test.true (sym c.in_err-number_of.ensures) c.loop-name.invariant)

pub loop-name-preserved : goal.loop-name-preserved
loop-name-preserved c =
    rw c.in_ok-push.ensures.items
    (one_more_at (λ name. name.now) (λ _ name. number_of (names_in c.args.names.now) c.args.place name) c.args.inputs.now c.loop-name.name-index
    c.loop-name.numbers.items (record { ref_ptr = (0, 0); now = [] }) c.in_ok-number_of.field-0 c.loop-name-test.true (sym c.in_ok-number_of.ensures) c.loop-name.invariant)
