use Rattle.std.proofs.Common.{◌≡◌, ◌+◌, ◌-◌}
use Rattle.bundle_work.specs.Outside.{IsKitKept}
use Rattle.bundle_work.specs.Reading.{IsReading}
use Rattle.combine_plan.proofs.PieceWork.{IsLeft}
use Rattle.combine_plan.proofs.folding.fold_piece.Given as goal

abbrev pub ghost-fold_bundle : goal.ghost-fold_bundle
ghost-fold_bundle g a = g.setting

abbrev pub ghost-skim_piece : goal.ghost-skim_piece
ghost-skim_piece g a = g.setting

abbrev pub invariant-bundles : goal.invariant-bundles
invariant-bundles g l = record {
  left : IsLeft g.F.Shelf.strict g.F.Shelf.faults g.S.Store.files g.S.Store.faults g.S.Store.opened g.C.Combiner.stands g.C.Combiner.takes g.setting.known l.graph l.attempts l.piece l.rest l.fn.kit.shelf l.kit.shelf
      l.fn.kit.store l.kit.store l.fn.partials l.partials;
  reading : IsReading g.setting.known.told (g.S.Store.opened l.kit.store) l.graph l.worker.readers.items l.worker.place l.worker.bench.pager;
  readers : l.worker.readers.items ≡ l.fn.worker.readers.items;
  kept : IsKitKept g.F.Shelf.faults g.F.Shelf.strict g.S.Store.faults g.S.Store.files g.S.Store.opened l.fn.kit.shelf l.kit.shelf l.fn.kit.store l.kit.store;
  files : l.kit.files ≡ l.fn.kit.files;
}

abbrev pub decreases-bundles : goal.decreases-bundles
decreases-bundles g l = (l.piece.range.to - l.rest.range.from) + (l.attempts - l.rest.attempts)
