use Rattle.std.proofs.Common.{ℕ, List, subst}
use Rattle.std.specs.Prelude.{◌↔◌, Contains}
use Rattle.group_cells.specs.KnownWindows.{places_of}
use Rattle.group_cells.specs.declared.groups.standing.Standing.{Standing}
use Rattle.group_cells.proofs.MetPlaces.{places_from_met}
use Rattle.group_cells.proofs.groups.standing.Listed.meeting.Goals as goal

pub returns-clause-places : goal.returns-clause-places
returns-clause-places c = λ test h.
    let places = c.in_ok-places.places in
    places_from_met test c.args.self.now.by_end c.args.span c.in_ok-windows.windows places h (c.in_ok-windows.ensures.met h.apart) c.in_ok-places.ensures.ascend
    (subst (λ (l : List Standing). (p : ℕ) → Contains places p ↔ Contains (places_of l) p) c.as_slice.ensures c.in_ok-places.ensures.same)
