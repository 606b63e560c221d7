use Rattle.std.proofs.Common.{◌≡◌}
use Rattle.std.specs.Prelude.{IsSomeAnd}
use Rattle.sdf_library.specs.Paging.{HoldsFile}
use Rattle.library_tests.proofs.sources.has_held.Given as goal

abbrev pub invariant-loop-p : goal.invariant-loop-p
invariant-loop-p g l = record {
  len : l.pager.len ≡ l.opened.len;
  opening : IsSomeAnd (g.S.Store.opened l.store l.pager.file) (λ opening. opening.len ≡ l.pager.len);
  held : HoldsFile (g.S.Store.opened l.store l.pager.file) l.pager;
}
