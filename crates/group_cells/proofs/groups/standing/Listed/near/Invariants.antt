use Rattle.std.proofs.Common.{◌≡◌, ℤ, Some, take, true}
use Rattle.std.specs.Prelude.{Contains}
use Rattle.std.specs.List.{All}
use Rattle.beam_values.specs.Sessions.{IsNonEmpty}
use Rattle.group_cells.specs.KnownWindows.{overlaps, window_at, AreListedApart}
use Rattle.group_cells.specs.declared.groups.standing.Standing.{Standing}
use Rattle.group_cells.proofs.groups.standing.Listed.near.Given as goal

abbrev pub invariant-loop-span : goal.invariant-loop-span
invariant-loop-span l = record {
  listed : AreListedApart l.self.by_end → All (λ span. (t : Standing) × (window_at l.self.by_end span.end ≡ Some t) × (t.span ≡ span)) l.near;
  some : All IsNonEmpty (take l.span-index l.own);
  whole : AreListedApart l.self.by_end
      → All (λ span. (e : ℤ) (t : Standing) → window_at l.self.by_end e ≡ Some t → overlaps span t.span ≡ true → Contains l.near t.span) (take l.span-index l.own);
}
