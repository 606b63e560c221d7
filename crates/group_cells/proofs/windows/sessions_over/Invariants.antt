use Rattle.std.proofs.Common.{take}
use Rattle.std.specs.Prelude.{All, Contains}
use Rattle.beam_values.specs.Sessions.{IsNonEmpty}
use Rattle.session_merge.specs.Merging.{AreSessionsOf}
use Rattle.group_cells.proofs.windows.sessions_over.Given as goal

abbrev pub invariant-loop-span : goal.invariant-loop-span
invariant-loop-span l = record {
  some : All IsNonEmpty (take l.span-index l.span-items);
  sessions : AreSessionsOf (Contains (take l.span-index l.span-items)) l.sessions;
}
