use Rattle.std.proofs.Common.{ℕ, refl, subst, sym, ◌∙◌, arith}
use Rattle.combine_views.specs.Skims.{HasSkimmed}
use Rattle.combine_views.specs.Steps.{IsStep}
use Rattle.combine_views.specs.declared.skim.Step.{Step}
use Rattle.chain_exec.proofs.Looks.{text_later}
use Rattle.combine_views.proofs.Skimming.{skimmed_more, skimmed_none}
use Rattle.combine_views.proofs.skim.skim_lines.Goals as goal

pub lines-init : goal.lines-init
lines-init g c = record {
  skimmed = record {
    behind = omega arith;
    within = c.requires.ordered;
    skimmed = skimmed_none g.C.Combiner.stands c.args.graph.now c.args.source c.args.work (g.S.Store.opened c.args.store.now c.args.pager.now.file) c.args.pager.now.len c.args.from c.args.partials.now;
  };
  held = c.requires.held;
  file = refl;
  len = refl;
  told = refl;
  kept = λ file opening at. at;
  counts = omega arith;
}

pub lines-preserved : goal.lines-preserved
lines-preserved g c =
    let i = c.lines.invariant in
    let opened = g.S.Store.opened in
    let faults = g.S.Store.faults in
    let old = c.args.pager.now in
    let after = c.skim_line.new in
    let one =
    subst
    (λ (step : Step). IsStep g.C.Combiner.stands c.args.graph.now c.args.source c.args.work (opened c.lines.store c.lines.pager.file) c.lines.pager.len c.lines.at
    (faults c.lines.store) (faults after.store) c.lines.partials after.partials step)
    c.in-Added.is c.in_ok-next.ensures.step in
    record {
      skimmed = record {
        behind = omega (arith, one.above, i.skimmed.behind, c.min-at.ensures, c.lines-test.true);
        within = omega (arith, c.min-at.ensures);
        skimmed =
            subst (λ (n : ℕ). HasSkimmed g.C.Combiner.stands c.args.graph.now c.args.source c.args.work (opened c.args.store.now old.file) old.len c.args.from n c.args.partials.now after.partials)
            (sym c.min-at.ensures)
            (skimmed_more g.C.Combiner.stands c.args.graph.now c.args.source c.args.work (opened c.args.store.now old.file) (opened c.lines.store c.lines.pager.file) old.len c.lines.pager.len
            c.args.from c.lines.at c.in-Added.next c.args.to c.args.partials.now c.lines.partials after.partials i.skimmed.behind c.lines-test.true
            (λ text is. text_later c.args.work (opened c.args.store.now) (opened c.lines.store) old.file c.lines.pager.file old.len c.lines.pager.len text i.kept i.file i.len is)
            i.skimmed.skimmed one);
      };
      held = c.skim_line.ensures.held;
      file = c.skim_line.ensures.file ∙ i.file;
      len = c.skim_line.ensures.len ∙ i.len;
      told = c.skim_line.ensures.told ∙ i.told;
      kept = λ file opening at. c.skim_line.ensures.kept file opening (i.kept file opening at);
      counts = omega (arith, i.counts, c.skim_line.ensures.counts);
    }
