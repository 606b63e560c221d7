use Rattle.std.proofs.Common.{length, ◌-◌, ◌≡◌, ◌≤◌, ℕ, List, Some, take, drop}
use Rattle.beam_ports.specs.Files.{KeepsOpenings}
use Rattle.sdf_library.proofs.reading.fill_block.Given as goal

abbrev pub invariant-loop-done : goal.invariant-loop-done
invariant-loop-done g l = record {
  kept : KeepsOpenings (g.S.Store.opened l.initial.store) (g.S.Store.opened l.store);
  within : l.done ≤ length l.buffer;
  told : g.S.Store.files l.store ≡ g.S.Store.files l.initial.store;
  counts : g.S.Store.faults l.initial.store ≤ g.S.Store.faults l.store;
  -- what was filled is the front of the file from `at` on
  bytes : (text : List ℕ) → g.S.Store.opened l.initial.store l.file ≡ Some (record { len = l.len; text = Some text })
      → take l.done l.buffer ≡ take l.done (drop l.at text);
}

abbrev pub decreases-loop-done : goal.decreases-loop-done
decreases-loop-done g l = length l.initial.buffer - l.done
