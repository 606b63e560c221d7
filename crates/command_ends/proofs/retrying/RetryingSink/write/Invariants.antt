use Rattle.std.proofs.Common.{◌≡◌, ◌-◌, ◌≤◌}
use Rattle.command_ends.specs.Retrying.{KeepsWriting}
use Rattle.command_ends.proofs.retrying.RetryingSink.write.Given as goal

abbrev pub invariant-loop-self : goal.invariant-loop-self
invariant-loop-self g l = record {
  few : l.self.failed ≤ l.self.attempts;
  taken : g.W.Sink.taken l.self.sink.now ≡ g.W.Sink.taken l.initial.self.sink.now;
  tried : KeepsWriting g.W.Sink l.initial.self l.self;
}

abbrev pub decreases-loop-self : goal.decreases-loop-self
decreases-loop-self g l = l.self.attempts - l.self.failed
