use Rattle.std.proofs.Common.{ℕ, List, sym, ap, ◌∙◌, arith}
use Rattle.std.proofs.lemmas.Result.{err_from_is_err_and}
use Rattle.beam_model.specs.Positions as model
use Rattle.chain_exec.specs.Positions.{emission_of}
use Rattle.chain_exec.specs.Sources.{IsLookInto, IsText}
use Rattle.chain_exec.proofs.Looks.{adds_all, seen_refused, skips, text_later}
use Rattle.chain_exec.proofs.source.work_source.Goals as goal

pub returns-in-Some-clause-told : goal.returns-in-Some-clause-told
returns-in-Some-clause-told g c = λ text is.
    let skipped = skips c.args.work c.args.args.now (g.S.Store.opened c.args.store.now c.args.pager.now.file) c.args.pager.now c.args.p c.in-Some.next
    (sym c.skipped_to.ensures.noted ∙ c.in-Some.is) c.requires.held text is in
    (ap emission_of c.requires.empty ∙ skipped.0, skipped.1)

pub returns-in_err-next-clause-refused : goal.returns-in_err-next-clause-refused
returns-in_err-next-clause-refused g c =
    let known : (text : List ℕ) → IsText c.args.work (g.S.Store.opened c.args.store.now c.args.pager.now.file) c.args.pager.now.len text
    → IsLookInto text (record { work = c.args.work; args = c.args.args.now }) c.hold.new.pager =
    λ text is. c.in_ok-hold.ensures.shown text (text_later c.args.work (g.S.Store.opened c.args.store.now) (g.S.Store.opened c.hold.new.store) c.args.pager.now.file c.hold.new.pager.file
    c.args.pager.now.len c.hold.new.pager.len text c.hold.ensures.kept c.hold.ensures.file c.hold.ensures.len is) in
    let e = c.in_err-next.field-0.0 in
    let p = err_from_is_err_and c.from_residual-in_err-next.result c.from_residual-in_err-next.ensures.1 in
    rw (p.1, p.2) (seen_refused (g.F.Shelf.strict c.args.shelf.now) (g.F.Shelf.faults c.args.shelf.now) (g.F.Shelf.faults c.args.shelf.now) (g.F.Shelf.faults c.call_source.new.shelf)
    (record { before = g.S.Store.faults c.args.store.now; after = g.S.Store.faults c.hold.new.store }) c.args.node (record { work = c.args.work; args = c.args.args.now }) c.hold.new.pager
    (g.S.Store.opened c.args.store.now c.args.pager.now.file) c.args.pager.now.len c.args.p (omega arith) known e c.in_err-next.ensures.refused)

pub returns-in_err-next-clause-unharmed : goal.returns-in_err-next-clause-unharmed
returns-in_err-next-clause-unharmed g c = λ strict text is clean.
    c.call_source.ensures.unharmed strict text
    (c.in_ok-hold.ensures.shown text (text_later c.args.work (g.S.Store.opened c.args.store.now) (g.S.Store.opened c.hold.new.store) c.args.pager.now.file c.hold.new.pager.file
    c.args.pager.now.len c.hold.new.pager.len text c.hold.ensures.kept c.hold.ensures.file c.hold.ensures.len is)) clean

pub returns-clause-told : goal.returns-clause-told
returns-clause-told g c = λ text is.
    let look = c.in_ok-hold.ensures.shown text (text_later c.args.work (g.S.Store.opened c.args.store.now) (g.S.Store.opened c.hold.new.store) c.args.pager.now.file c.hold.new.pager.file
    c.args.pager.now.len c.hold.new.pager.len text c.hold.ensures.kept c.hold.ensures.file c.hold.ensures.len is) in
    let found = c.in_ok-next.ensures.found text look in
    (adds_all (model.emission c.args.work c.args.args.now text c.args.p) c.args.out.now c.call_source.new.out c.requires.empty found.1, found.0)

pub returns-clause-unharmed : goal.returns-clause-unharmed
returns-clause-unharmed g c = λ strict text is clean.
    c.call_source.ensures.unharmed strict text
    (c.in_ok-hold.ensures.shown text (text_later c.args.work (g.S.Store.opened c.args.store.now) (g.S.Store.opened c.hold.new.store) c.args.pager.now.file c.hold.new.pager.file
    c.args.pager.now.len c.hold.new.pager.len text c.hold.ensures.kept c.hold.ensures.file c.hold.ensures.len is)) clean
