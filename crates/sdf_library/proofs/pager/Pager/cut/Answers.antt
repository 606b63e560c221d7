use Rattle.std.proofs.Common.{subst, sym, arith}
use Rattle.sdf_library.specs.Paging.{Paged, Serves, block}
use Rattle.sdf_library.proofs.Pages.{serves_page}
use Rattle.sdf_library.proofs.pager.Pager.cut.Goals as goal

pub returns-then-held-gt-BLOCK-clause-serves : goal.returns-then-held-gt-BLOCK-clause-serves
returns-then-held-gt-BLOCK-clause-serves c = λ serves.
    subst (λ (q : Paged). Serves q c.args.p) (sym c.keep.ensures.page) (serves_page c.args.self.now c.args.p block (omega arith) serves)
