use Rattle.std.proofs.Common.{List, sym, ap, ◌∙◌}
use Rattle.beam_values.specs.declared.value.Value.{Value}
use Rattle.keyed_state.specs.Bags.{holds_value}
use Rattle.keyed_state.proofs.Joined.{held_here}
use Rattle.keyed_state.proofs.bag.any_holds.Goals as goal

pub returns-then-holds : goal.returns-then-holds
returns-then-holds c =
    let v = c.args.value.now in
    sym (held_here c.args.runs.now c.loop-run.run-index c.run-item.result c.loop-run-test.true c.run-item.is v
    (ap (λ (l : List Value). holds_value l v) (sym c.get.ensures) ∙ sym c.holds.ensures ∙ c.if-holds.true))
