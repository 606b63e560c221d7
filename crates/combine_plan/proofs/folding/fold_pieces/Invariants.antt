use Rattle.std.proofs.Common.{◌≡◌, map, take}
use Rattle.split_core.specs.Partition.{range_of}
use Rattle.bundle_work.specs.Outside.{IsKitKept}
use Rattle.bundle_work.specs.Reading.{IsReading, length_in}
use Rattle.combine_plan.specs.Folding.{HasFolded}
use Rattle.combine_plan.proofs.folding.fold_pieces.Given as goal

abbrev pub ghost-fold_piece : goal.ghost-fold_piece
ghost-fold_piece g a = g.setting

abbrev pub invariant-loop-piece : goal.invariant-loop-piece
invariant-loop-piece g l = record {
  folded : HasFolded g.C.Combiner.stands g.setting.known l.graph (map range_of (take l.piece-index l.pieces)) l.initial.partials l.partials;
  reading : IsReading g.setting.known.told (g.S.Store.opened l.kit.store) l.graph l.worker.readers.items l.worker.place l.worker.bench.pager;
  lengths : map length_in l.worker.readers.items ≡ g.setting.files;
  kept : IsKitKept g.F.Shelf.faults g.F.Shelf.strict g.S.Store.faults g.S.Store.files g.S.Store.opened l.fn.kit.shelf l.kit.shelf l.fn.kit.store l.kit.store;
  files : l.kit.files ≡ l.fn.kit.files;
}
