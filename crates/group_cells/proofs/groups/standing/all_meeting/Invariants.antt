use Rattle.std.proofs.Common.{◌≡◌, take}
use Rattle.std.specs.List.{All}
use Rattle.beam_values.specs.Sessions.{IsNonEmpty}
use Rattle.group_cells.specs.KnownWindows.{meeting_places}
use Rattle.group_cells.proofs.groups.standing.all_meeting.Given as goal

abbrev pub invariant-loop-place : goal.invariant-loop-place
invariant-loop-place l = record {
  places : l.places ≡ meeting_places l.rules l.mark l.node l.key l.span (take l.place l.cells);
  filled : All (λ cell. IsNonEmpty cell.span) (take l.place l.cells);
}
