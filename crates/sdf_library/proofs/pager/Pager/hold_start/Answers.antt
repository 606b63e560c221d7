use Rattle.std.proofs.Common.{◌-◌, subst, sym}
use Rattle.sdf_library.specs.Paging.{Paged, HoldsFile}
use Rattle.sdf_library.proofs.Pages.{holds_from}
use Rattle.sdf_library.proofs.pager.Pager.hold_start.Goals as goal

pub read_on-requires-clause-held : goal.read_on-requires-clause-held
read_on-requires-clause-held g c κs within =
    subst (λ (q : Paged). HoldsFile (g.S.Store.opened c.args.store.now q.file) q) (sym c.give_up_before.ensures.left)
    (holds_from (g.S.Store.opened c.args.store.now c.args.self.now.file) c.args.self.now (c.args.p - 1) c.requires.held)
