use Rattle.std.proofs.Common.{◌≡◌}
use Rattle.group_cells.specs.Unfiring.{was_shown}
use Rattle.group_cells.proofs.Unfiring.{shown_upto}
use Rattle.group_cells.proofs.groups.fired.Shown.put_back.Given as goal

abbrev pub invariant-loop-entry : goal.invariant-loop-entry
invariant-loop-entry l = record {
  at : l.at ≡ l.entry-index;
  items : l.entry-items ≡ shown_upto (was_shown l.fn.self) l.fn.entries l.entry-index;
}
