use Rattle.std.proofs.Common.{List, map, refl, rules, sym, ap, subst, ◌∙◌, arith}
use Rattle.std.proofs.lemmas.Result.{err_from_is_err_and}
use Rattle.beam_ports.specs.declared.store.Opened.{Opened}
use Rattle.beam_values.specs.declared.plan.Plan.{Plan}
use Rattle.bundle_work.specs.Openings.{AreOpened, file_names}
use Rattle.bundle_work.specs.Reading.{length_in, opened_lengths}
use Rattle.bundle_work.proofs.Answered.{kit_onward, kit_same}
use Rattle.bundle_work.proofs.Told.{opened_known}
use Rattle.split_core.specs.Partition.{range_of}
use Rattle.combine_plan.specs.Dealing.{IsInside}
use Rattle.combine_plan.proofs.Folded.{fold_kept, folded_none}
use Rattle.combine_plan.proofs.PieceWork.{pieces_all, pieces_more, pieces_refused}
use Rattle.combine_plan.proofs.folding.fold_pieces.Goals as goal

pub loop-piece-init : goal.loop-piece-init
loop-piece-init g c =
    let r = c.requires.1.1.1.1.1.1 in
    let kit = c.args.kit.now in
    let known = g.setting.known.told in
    let opened = g.S.Store.opened kit.store in
    let names = file_names g.setting.plan in
    let are = opened_known known (g.S.Store.files kit.store) opened names kit.files r.1.1.1.0.told r.1.1.1.0.opened in
    let shown = subst (λ (l : List Opened). AreOpened known opened names l) (sym c.as_slice.ensures) are in
    record {
      folded = folded_none g.C.Combiner.stands g.setting.known c.args.graph.now c.new-partials.result;
      reading = c.in_ok-worker.ensures.reading known opened (subst (λ (p : Plan). AreOpened known opened (file_names p) c.as_slice.result.now) (sym r.0) shown);
      lengths = c.in_ok-worker.ensures.lengths ∙ (λ k. opened_lengths (r.0 k) (c.as_slice.ensures k)) ∙ r.1.1.1.0.lengths;
      kept = kit_same g.F.Shelf.faults g.F.Shelf.strict g.S.Store.faults g.S.Store.files g.S.Store.opened kit.shelf kit.store;
      files = refl {A = List Opened};
    }

pub fold_piece-requires : goal.fold_piece-requires
fold_piece-requires g c κs within =
    let r = c.requires.1.1.1.1.1.1 in
    let i = c.loop-piece.invariant in
    let piece = c.piece-item.result in
    let inside = subst (IsInside g.setting) (sym c.piece-item.is) (r.1.1.1.1 c.loop-piece.piece-index piece c.loop-piece-test.true) in (
      search rules,
      (
        search rules,
        (
          search rules,
          (
            search rules,
            (search rules, (search rules, (r.0, (r.1.0, (r.1.1.0, (inside, ((λ is. i.kept.strict ∙ r.1.1.1.0.strict is), (i.reading, i.lengths)))))))),
          ),
        ),
      ),
    )

pub returns-in_err-fold_piece-clause-refused : goal.returns-in_err-fold_piece-clause-refused
returns-in_err-fold_piece-clause-refused g c =
    let i = c.loop-piece.invariant in
    let p = err_from_is_err_and c.from_residual-in_err-fold_piece.result c.from_residual-in_err-fold_piece.ensures.1 in
    rw (p.1, p.2)
    (pieces_refused g.F.Shelf.strict g.F.Shelf.faults g.S.Store.files g.S.Store.faults g.S.Store.opened g.C.Combiner.stands g.C.Combiner.takes g.setting.known c.args.graph.now c.args.options.now.attempts
    c.args.pieces.now c.loop-piece.piece-index c.piece-item.result c.loop-piece-test.true c.piece-item.is
    c.args.kit.now.shelf c.loop-piece.kit.shelf c.fold_piece.new.kit.shelf c.args.kit.now.store c.loop-piece.kit.store c.fold_piece.new.kit.store c.new-partials.result c.loop-piece.partials c.fold_piece.new.partials
    i.folded c.new-partials.ensures.parts i.kept c.in_err-fold_piece.field-0.0 c.in_err-fold_piece.ensures.refused)

pub returns-in_err-fold_piece-clause-kept : goal.returns-in_err-fold_piece-clause-kept
returns-in_err-fold_piece-clause-kept g c =
    kit_onward g.F.Shelf.faults g.F.Shelf.strict g.S.Store.faults g.S.Store.files g.S.Store.opened c.args.kit.now.shelf c.loop-piece.kit.shelf c.fold_piece.new.kit.shelf c.args.kit.now.store c.loop-piece.kit.store
    c.fold_piece.new.kit.store c.loop-piece.invariant.kept c.in_err-fold_piece.ensures.kept

pub loop-piece-preserved : goal.loop-piece-preserved
loop-piece-preserved g c =
    let i = c.loop-piece.invariant in
    let done = c.in_ok-fold_piece.ensures in
    record {
      folded = pieces_more g.F.Shelf.strict g.F.Shelf.faults g.S.Store.files g.S.Store.faults g.S.Store.opened g.C.Combiner.stands g.C.Combiner.takes g.setting.known c.args.graph.now c.args.options.now.attempts
          c.args.pieces.now c.loop-piece.piece-index c.piece-item.result c.loop-piece-test.true c.piece-item.is
          c.args.kit.now.shelf c.loop-piece.kit.shelf c.fold_piece.new.kit.shelf c.args.kit.now.store c.loop-piece.kit.store c.fold_piece.new.kit.store c.new-partials.result c.loop-piece.partials c.fold_piece.new.partials
          i.folded done.folded;
      reading = done.reading;
      lengths = ap (map length_in) done.readers ∙ i.lengths;
      kept = kit_onward g.F.Shelf.faults g.F.Shelf.strict g.S.Store.faults g.S.Store.files g.S.Store.opened c.args.kit.now.shelf c.loop-piece.kit.shelf c.fold_piece.new.kit.shelf c.args.kit.now.store
          c.loop-piece.kit.store c.fold_piece.new.kit.store i.kept done.kept;
      files = ◌∙◌ {A = List Opened} done.files i.files;
    }

pub returns-clause-folded : goal.returns-clause-folded
returns-clause-folded g c =
    fold_kept g.C.Combiner.stands g.setting.known c.args.graph.now (map range_of c.args.pieces.now) c.loop-piece.partials c.settle.new.self c.settle.ensures.stands
    (pieces_all g.F.Shelf.strict g.F.Shelf.faults g.S.Store.files g.S.Store.faults g.S.Store.opened g.C.Combiner.stands g.C.Combiner.takes g.setting.known c.args.graph.now c.args.options.now.attempts
    c.args.pieces.now c.loop-piece.piece-index c.new-partials.result c.loop-piece.partials (omega arith) c.new-partials.ensures.stands c.loop-piece.invariant.folded)
