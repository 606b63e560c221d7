use Rattle.std.proofs.Common.{◌≡◌, ◌-◌, ◌<◌, ◌≤◌}
use Rattle.beam_ports.specs.Counts.{rise}
use Rattle.combine_plan.proofs.last.work_panes.Given as goal

-- so many attempts failed, and each was counted
abbrev pub invariant-attempts : goal.invariant-attempts
invariant-attempts g l = record {
  limit : l.tried < l.attempts;
  counted : l.tried ≤ rise (g.F.Shelf.faults l.initial.shelf) (g.F.Shelf.faults l.shelf);
  counts : g.F.Shelf.faults l.initial.shelf ≤ g.F.Shelf.faults l.shelf;
  strict : g.F.Shelf.strict l.shelf ≡ g.F.Shelf.strict l.initial.shelf;
}

abbrev pub decreases-attempts : goal.decreases-attempts
decreases-attempts g l = l.attempts - l.tried
