use Rattle.std.proofs.Common.{◌≡◌, ◌-◌, ◌≤◌}
use Rattle.beam_ports.specs.Files.{KeepsOpenings}
use Rattle.chain_exec.specs.Sources.{IsPagerOf}
use Rattle.combine_views.specs.Skims.{HasSkimmedTo}
use Rattle.combine_views.proofs.skim.skim_lines.Given as goal

abbrev pub invariant-lines : goal.invariant-lines
invariant-lines g l = record {
  skimmed : HasSkimmedTo g.C.Combiner.stands l.graph l.source l.work (g.S.Store.opened l.fn.store l.fn.pager.file) l.fn.pager.len l.from l.to l.at l.fn.partials l.partials;
  held : IsPagerOf (g.S.Store.opened l.store l.pager.file) l.pager;
  file : l.pager.file ≡ l.fn.pager.file;
  len : l.pager.len ≡ l.fn.pager.len;
  told : g.S.Store.files l.store ≡ g.S.Store.files l.fn.store;
  kept : KeepsOpenings (g.S.Store.opened l.fn.store) (g.S.Store.opened l.store);
  counts : g.S.Store.faults l.fn.store ≤ g.S.Store.faults l.store;
}

abbrev pub decreases-lines : goal.decreases-lines
decreases-lines g l = l.to - l.at
