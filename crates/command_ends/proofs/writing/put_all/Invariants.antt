use Rattle.std.proofs.Common.{◌≡◌, ◌-◌, ◌≤◌, length, take}
use Rattle.beam_ports.specs.Sinks.{then_taken}
use Rattle.command_ends.specs.Retrying.{IsSinkPatient, KeepsWriting}
use Rattle.command_ends.proofs.writing.put_all.Given as goal

abbrev pub invariant-loop-done : goal.invariant-loop-done
invariant-loop-done g l = record {
  within : l.done ≤ length l.text;
  patient : IsSinkPatient l.sink;
  taken : g.W.Sink.taken l.sink.sink.now ≡ then_taken (g.W.Sink.taken l.initial.sink.sink.now) (take l.done l.text);
  tried : KeepsWriting g.W.Sink l.initial.sink l.sink;
}

abbrev pub decreases-loop-done : goal.decreases-loop-done
decreases-loop-done g l = length l.text - l.done
