use Rattle.std.proofs.Common.{◌≡◌, ℤ, Some, false}
use Rattle.std.specs.BTreeMap.{btree_map_len}
use Rattle.beam_values.specs.Firing.{is_expired}
use Rattle.group_cells.specs.KnownWindows.{window_at}
use Rattle.group_cells.specs.declared.groups.standing.Standing.{Standing}
use Rattle.group_cells.proofs.groups.standing.drop_expired.Given as goal

abbrev pub invariant-expired : goal.invariant-expired
invariant-expired l = record {
  kept : (e : ℤ) (t : Standing) → window_at l.by_end e ≡ Some t → window_at l.fn.by_end e ≡ Some t;
  left : (e : ℤ) (t : Standing) → window_at l.fn.by_end e ≡ Some t → is_expired l.rules.trigger e l.mark ≡ false → window_at l.by_end e ≡ Some t;
}

abbrev pub decreases-expired : goal.decreases-expired
decreases-expired l = btree_map_len l.by_end
