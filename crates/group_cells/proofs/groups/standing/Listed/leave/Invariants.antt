use Rattle.std.proofs.Common.{◌≡◌, ℤ, None, cond, take}
use Rattle.group_cells.specs.KnownWindows.{window_at}
use Rattle.group_cells.proofs.ListedWindows.{is_among}
use Rattle.group_cells.proofs.groups.standing.Listed.leave.Given as goal

abbrev pub invariant-loop-window : goal.invariant-loop-window
invariant-loop-window l = record {
  mark : l.self.mark ≡ l.fn.self.mark;
  left : (e : ℤ) → window_at l.self.by_end e ≡ cond (is_among (take l.window-index l.met) e) None (window_at l.fn.self.by_end e);
}
