use Rattle.std.proofs.Common.{◌≡◌, ◌≤◌, take}
use Rattle.std.specs.List.{count_by}
use Rattle.book_core.specs.KeyCells.{is_arrived}
use Rattle.book_core.proofs.key_job.count_arrived.Given as goal

abbrev pub invariant-loop-input : goal.invariant-loop-input
invariant-loop-input l = record {
  counted : l.count ≡ count_by is_arrived (take l.input-index l.inputs);
  within : l.count ≤ l.input-index;
}
