use Rattle.std.proofs.Common.{◌≡◌, ◌++◌, take}
use Rattle.keyed_state.specs.Bags.{joined, HoldsSame}
use Rattle.keyed_state.proofs.run.append_runs.Given as goal

-- the runs so far are appended
abbrev pub invariant-loop-run : goal.invariant-loop-run
invariant-loop-run l = record {
  values : l.both.values ≡ l.initial.both.values ++ joined (take l.run-index l.runs);
  same : HoldsSame l.both.sorted l.both.values;
}
