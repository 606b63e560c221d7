use Rattle.std.proofs.Common.{◌-◌, ◌≤◌}
use Rattle.command_ends.specs.Retrying.{KeepsTrying}
use Rattle.command_ends.proofs.retrying.RetryingStore.read_at.Given as goal

abbrev pub invariant-loop-self : goal.invariant-loop-self
invariant-loop-self g l = record {
  few : l.self.failed ≤ l.self.attempts;
  tried : KeepsTrying g.S.Store l.initial.self l.self;
}

abbrev pub decreases-loop-self : goal.decreases-loop-self
decreases-loop-self g l = l.self.attempts - l.self.failed
