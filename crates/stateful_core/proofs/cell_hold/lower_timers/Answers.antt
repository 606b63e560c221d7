use Rattle.std.proofs.Common.{◌<◌, None, ap, sym, ◌∙◌, length, arith}
use Rattle.std.specs.Prelude.{fold}
use Rattle.std.proofs.lemmas.List.{take_all}
use Rattle.std.proofs.lemmas.List.Sums.{fold_more}
use Rattle.stateful_core.specs.Minima.{lowered}
use Rattle.stateful_core.proofs.cell_hold.lower_timers.Goals as goal

pub loop-name-preserved : goal.loop-name-preserved
loop-name-preserved c =
    let timers = c.args.timers.now in
    let inv = c.loop-name.invariant in
    let inside : c.loop-name.name < length c.args.timers.now = omega (arith, c.get.ensures.sized, c.loop-name-test.true) in
    record {
      least = c.lowered-least.ensures ∙ (λ i. lowered (inv.least i) (c.get.ensures.value i)) ∙ sym (fold_more lowered c.args.mark timers c.loop-name.name None inside);
      eight = λ _. c.get.ensures.sized;
    }

pub returns : goal.returns
returns c =
    let inv = c.loop-name.invariant in
    inv.least ∙ ap (fold lowered c.args.mark) (take_all c.loop-name.name c.args.timers.now (omega (arith, inv.eight (omega (arith, c.loop-name-test.false)), c.loop-name-test.false)))
