use Rattle.std.proofs.Common.{◌≡◌, take}
use Rattle.pane_triggers.specs.NextMarks.{earliest}
use Rattle.pane_triggers.proofs.next.earliest.Given as goal

abbrev pub invariant-loop-bar : goal.invariant-loop-bar
invariant-loop-bar l = l.earliest ≡ earliest (take l.bar-index l.bar-items) l.end l.unseen l.time
