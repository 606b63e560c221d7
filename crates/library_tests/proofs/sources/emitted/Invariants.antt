use Rattle.std.proofs.Common.{◌-◌, ◌≡◌}
use Rattle.std.specs.Prelude.{IsSomeAnd}
use Rattle.sdf_library.specs.Paging.{HoldsFile}
use Rattle.library_tests.proofs.sources.emitted.Given as goal

abbrev pub invariant-loop-p : goal.invariant-loop-p
invariant-loop-p g l = record {
  work : g.F.SplittableFn.work l.source ≡ g.F.SplittableFn.work l.fn.source;
  len : l.pager.len ≡ l.opened.len;
  opening : IsSomeAnd (g.S.Store.opened l.store l.pager.file) (λ opening. opening.len ≡ l.pager.len);
  held : HoldsFile (g.S.Store.opened l.store l.pager.file) l.pager;
}

abbrev pub decreases-loop-p : goal.decreases-loop-p
decreases-loop-p g l = l.opened.len - l.p
