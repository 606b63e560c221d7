use Rattle.std.proofs.Common.{length, ◌-◌, ◌≡◌, ◌≤◌, ℕ, List, Some, take}
use Rattle.command_ends.specs.Retrying.{IsPatient, KeepsTrying}
use Rattle.command_ends.proofs.whole_file.fill.Given as goal

abbrev pub invariant-loop-done : goal.invariant-loop-done
invariant-loop-done g l = record {
  within : l.done ≤ length l.buffer;
  size : length l.buffer ≡ length l.initial.buffer;
  patient : IsPatient l.store;
  tried : KeepsTrying g.S.Store l.initial.store l.store;
  -- what was filled is the front of the file
  bytes : (text : List ℕ) → g.S.Store.opened l.initial.store.store.now l.file.file ≡ Some (record { len = l.file.len; text = Some text })
      → length text ≡ l.file.len → take l.done l.buffer ≡ take l.done text;
}

abbrev pub decreases-loop-done : goal.decreases-loop-done
decreases-loop-done g l = length l.initial.buffer - l.done
