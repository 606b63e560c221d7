use Rattle.std.proofs.Common.{◌≤◌, length, take}
use Rattle.std.specs.Prelude.{All, Any, Contains}
use Rattle.beam_values.specs.Sessions.{LiesIn}
use Rattle.group_cells.proofs.windows.sessions_of.Given as goal

abbrev pub invariant-loop-span : goal.invariant-loop-span
invariant-loop-span l = record {
  listed : All (Contains l.listed) l.windows;
  covers : All (λ span. Any (LiesIn span) l.listed → Any (LiesIn span) l.windows) (take l.span-index l.own);
  few : length l.windows ≤ l.span-index;
}
