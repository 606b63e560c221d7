use Rattle.std.proofs.Common.{arith, ◌<◌, ◌≤◌, List, ℤ, length, subst, sym}
use Rattle.std.specs.Prelude.{Option}
use Rattle.stateful_core.specs.Seen.{cell_of}
use Rattle.stateful_core.specs.Trees.{IsDueTime, IsTimerDue}
use Rattle.stateful_core.proofs.Entries.{live_entry, timer_entry, waiting_entry}
use Rattle.stateful_core.proofs.trees.due_of.Goals as goal

pub returns-in-Some : goal.returns-in-Some
returns-in-Some c = live_entry (cell_of c.args.slot.now) _ c.in-Some.is

pub returns-then-len-gt0 : goal.returns-then-len-gt0
returns-then-len-gt0 c =
    let some : 0 < length c.args.slot.now.waiting.items = omega (arith, c.if-len-gt0.true, c.len.ensures) in
    subst (λ (d : ℤ). IsDueTime (cell_of c.args.slot.now) d) (sym c.at.ensures) (waiting_entry (cell_of c.args.slot.now) c.in-None.is some)

pub returns-else-len-gt0 : goal.returns-else-len-gt0
returns-else-len-gt0 c =
    let none : length c.args.slot.now.waiting.items ≤ 0 = omega (arith, c.if-len-gt0.false, c.len.ensures) in
    timer_entry (cell_of c.args.slot.now) c.first_of_timers.result c.in-None.is none
    (subst (λ (t : List (Option ℤ)). IsTimerDue t c.first_of_timers.result) c.get.ensures c.first_of_timers.ensures)
