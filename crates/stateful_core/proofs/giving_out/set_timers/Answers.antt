use Rattle.std.proofs.Common.{◌≤◌, arith, length}
use Rattle.stateful_core.specs.Data.{timers_from}
use Rattle.stateful_core.proofs.FormedTimers.{given_all}
use Rattle.stateful_core.proofs.giving_out.set_timers.Goals as goal

pub returns : goal.returns
returns c =
    let past : length c.args.holds.now ≤ c.loop-name.name = omega
    (arith, c.loop-name-test.false, c.loop-name.invariant.sized (omega (arith, c.loop-name-test.false))) in
    given_all c.loop-name.name c.args.timers.now c.args.holds.now c.loop-name.set
    (timers_from 0 c.args.timers.now c.args.holds.now) past c.loop-name.invariant.all
