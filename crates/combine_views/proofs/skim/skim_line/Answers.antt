use Rattle.std.proofs.Common.{ℕ, subst, sym}
use Rattle.chain_exec.specs.Sources.{IsPagerOf}
use Rattle.combine_views.proofs.Skimming.{pager_later, worked_noted}
use Rattle.combine_views.proofs.skim.skim_line.Goals as goal

pub returns-in-Some-clause-step : goal.returns-in-Some-clause-step
returns-in-Some-clause-step g c =
    worked_noted g.C.Combiner.stands c.args.graph.now c.args.source c.args.work c.requires.work (g.S.Store.opened c.args.store.now c.args.pager.now.file) c.args.pager.now c.args.p c.in-Some.next
    c.args.partials.now c.in-Some.ensures.noted c.in-Some.ensures.within.0 c.requires.held

pub returns-in-Ok-clause-held : goal.returns-in-Ok-clause-held
returns-in-Ok-clause-held g c =
    let e = c.in-Ok.ensures in
    let opened = g.S.Store.opened c.hold_line.new.store in
    subst (λ (file : ℕ). IsPagerOf (opened file) c.add_noted.new.pager) (sym c.add_noted.ensures.file)
    (c.add_noted.ensures.held (opened c.hold_line.new.self.file) e.shown
    (pager_later (g.S.Store.opened c.args.store.now) opened c.args.pager.now c.hold_line.new.self e.kept e.file e.len e.quiet e.open e.held c.requires.held))
