use Rattle.bundle_work.specs.Reading.{opened_lengths}
use Rattle.combine_plan.proofs.crew.fold_seat.Given as goal

-- what the kit alone knows
abbrev pub ghost-fold_pieces : goal.ghost-fold_pieces
ghost-fold_pieces g a = record {
  known = record { told = g.S.Store.files a.kit.now.store; strict = g.F.Shelf.strict a.kit.now.shelf };
  plan = a.graph.now;
  files = opened_lengths a.graph.now a.kit.now.files;
  options = a.options.now;
}
